-- The bits of an open element by the Standard's rules.
use Rattle.std.proofs.Common.{◌≡◌, ◌∙◌, ℕ, Bool, cond, refl, ap}
use Rattle.std.specs.Prelude.{◌==◌}
use Rattle.html_rules.specs.Sets.{set_by}
use Rattle.html_rules.specs.declared.rules.Rules.TheVariants.{Standard}
use Rattle.html_rules.specs.declared.tag_set.TagSet.{TagSet}
use Rattle.html_rules.specs.declared.tag_set.TagSet.TheVariants as set
use Rattle.html_names.specs.SetBits.{has_set, number_of}

-- bits in which that of a set is this one
abbrev pub IsWith : ℕ → TagSet → Bool → ℕ → Type 0
IsWith sets set is_in made = (s : TagSet) → has_set made s ≡ cond (number_of s == number_of set) is_in (has_set sets s)

-- the bit of a set, where those that the Standard asks for are at the places of html5ever's
abbrev moved : ℕ → TagSet → Bool
moved sets s = cond (number_of s == number_of set.TableTbodyTfoot) (has_set sets set.TbodyTfootThead)
    (cond (number_of s == number_of set.BodyEnd) (has_set sets set.StandardBodyEnd)
    (cond (number_of s == number_of set.SpecialTag) (has_set sets set.StandardSpecialTag)
    (cond (number_of s == number_of set.ButtonScope) (has_set sets set.StandardButtonScope)
    (cond (number_of s == number_of set.ListItemScope) (has_set sets set.StandardListItemScope)
    (cond (number_of s == number_of set.DefaultScope) (has_set sets set.StandardDefaultScope)
    (has_set sets s))))))

moved-is : (sets : ℕ) (s : TagSet) → moved sets s ≡ has_set sets (set_by Standard s)
unfolding number_of
moved-is sets set.DefaultScope = refl
moved-is sets set.ListItemScope = refl
moved-is sets set.ButtonScope = refl
moved-is sets set.TableScope = refl
moved-is sets set.TableBodyContext = refl
moved-is sets set.TableRowContext = refl
moved-is sets set.SpecialTag = refl
moved-is sets set.CursoryImpliedEnd = refl
moved-is sets set.ThoroughImpliedEnd = refl
moved-is sets set.HeadingTag = refl
moved-is sets set.FosterTarget = refl
moved-is sets set.BodyEnd = refl
moved-is sets set.FormAssociatable = refl
moved-is sets set.Listed = refl
moved-is sets set.MathmlTextIntegrationPoint = refl
moved-is sets set.SvgHtmlIntegrationPoint = refl
moved-is sets set.AnnotationXml = refl
moved-is sets set.MglyphMalignmark = refl
moved-is sets set.ForeignBreakout = refl
moved-is sets set.BrP = refl
moved-is sets set.HeadBodyHtmlBr = refl
moved-is sets set.BodyHtmlBr = refl
moved-is sets set.MetadataVoid = refl
moved-is sets set.NoscriptContent = refl
moved-is sets set.HeadContent = refl
moved-is sets set.NoframesStyle = refl
moved-is sets set.HeadNoscript = refl
moved-is sets set.Block = refl
moved-is sets set.BlockEnd = refl
moved-is sets set.PreListing = refl
moved-is sets set.DdDt = refl
moved-is sets set.AddressDivP = refl
moved-is sets set.FormattingTag = refl
moved-is sets set.FormattingEnd = refl
moved-is sets set.AppletMarqueeObject = refl
moved-is sets set.VoidTag = refl
moved-is sets set.ParamSourceTrack = refl
moved-is sets set.OptionOptgroup = refl
moved-is sets set.RbRtc = refl
moved-is sets set.RpRt = refl
moved-is sets set.RtcRuby = refl
moved-is sets set.TablePart = refl
moved-is sets set.TbodyTfootThead = refl
moved-is sets set.TdTh = refl
moved-is sets set.TdThTr = refl
moved-is sets set.TableTbodyTfoot = refl
moved-is sets set.StyleScriptTemplate = refl
moved-is sets set.InTableIgnoredEnd = refl
moved-is sets set.InCaptionIgnoredEnd = refl
moved-is sets set.InTableBodyIgnoredEnd = refl
moved-is sets set.InRowIgnoredEnd = refl
moved-is sets set.InCellIgnoredEnd = refl
moved-is sets set.CaptionCloser = refl
moved-is sets set.TableBodyCloser = refl
moved-is sets set.RowCloser = refl
moved-is sets set.CellCloserEnd = refl
moved-is sets set.TableTemplate = refl
moved-is sets set.RcdataContext = refl
moved-is sets set.RawtextContext = refl
moved-is sets set.A = refl
moved-is sets set.Body = refl
moved-is sets set.Br = refl
moved-is sets set.Button = refl
moved-is sets set.Caption = refl
moved-is sets set.Col = refl
moved-is sets set.Colgroup = refl
moved-is sets set.Font = refl
moved-is sets set.Form = refl
moved-is sets set.Frame = refl
moved-is sets set.Frameset = refl
moved-is sets set.Head = refl
moved-is sets set.Hr = refl
moved-is sets set.Html = refl
moved-is sets set.Iframe = refl
moved-is sets set.Image = refl
moved-is sets set.Input = refl
moved-is sets set.Li = refl
moved-is sets set.Math = refl
moved-is sets set.Nobr = refl
moved-is sets set.Noembed = refl
moved-is sets set.Noframes = refl
moved-is sets set.Noscript = refl
moved-is sets set.Optgroup = refl
moved-is sets set.Option = refl
moved-is sets set.P = refl
moved-is sets set.Plaintext = refl
moved-is sets set.Ruby = refl
moved-is sets set.Script = refl
moved-is sets set.Rtc = refl
moved-is sets set.Select = refl
moved-is sets set.Svg = refl
moved-is sets set.Table = refl
moved-is sets set.Template = refl
moved-is sets set.Textarea = refl
moved-is sets set.Title = refl
moved-is sets set.Tr = refl
moved-is sets set.Xmp = refl
moved-is sets set.StandardDefaultScope = refl
moved-is sets set.StandardListItemScope = refl
moved-is sets set.StandardButtonScope = refl
moved-is sets set.StandardSpecialTag = refl
moved-is sets set.StandardBodyEnd = refl

pub standard-bits : (sets a b c d e f : ℕ) → IsWith sets set.DefaultScope (has_set sets set.StandardDefaultScope) a
    → IsWith a set.ListItemScope (has_set sets set.StandardListItemScope) b
    → IsWith b set.ButtonScope (has_set sets set.StandardButtonScope) c
    → IsWith c set.SpecialTag (has_set sets set.StandardSpecialTag) d → IsWith d set.BodyEnd (has_set sets set.StandardBodyEnd) e
    → IsWith e set.TableTbodyTfoot (has_set sets set.TbodyTfootThead) f → (s : TagSet) → has_set f s ≡ has_set sets (set_by Standard s)
standard-bits sets a b c d e f one two three four five six s =
    six s ∙ ap (cond (number_of s == number_of set.TableTbodyTfoot) (has_set sets set.TbodyTfootThead))
    (five s ∙ ap (cond (number_of s == number_of set.BodyEnd) (has_set sets set.StandardBodyEnd))
    (four s ∙ ap (cond (number_of s == number_of set.SpecialTag) (has_set sets set.StandardSpecialTag))
    (three s ∙ ap (cond (number_of s == number_of set.ButtonScope) (has_set sets set.StandardButtonScope))
    (two s ∙ ap (cond (number_of s == number_of set.ListItemScope) (has_set sets set.StandardListItemScope)) (one s)))))
    ∙ moved-is sets s
