-- Each name of a set is a known one, so a name that is not known is in no set.
use Rattle.std.proofs.Common.{◌≡◌, ℕ, Bool, true, false, List, [], ◌∷◌, refl, ap}
use Rattle.std.specs.Prelude.{◌||◌}
use Rattle.std.specs.List.{list_all, list_any}
use Rattle.std.specs.Str.{bytes_eq}
use Rattle.std.proofs.lemmas.Bool.{and_parts}
use Rattle.std.proofs.lemmas.Slice.Eq.{bytes_eq-Decides}
use Rattle.markup.specs.KnownNames.{names}
use Rattle.html_rules.specs.Names.{Namespace, Html, MathMl, Svg, Other}
use Rattle.html_rules.specs.Sets.{is_among, mathml_names_of, names_in, names_of, svg_names_of}
use Rattle.html_rules.specs.declared.tag_set.TagSet.{TagSet}
use Rattle.html_rules.specs.declared.tag_set.TagSet.TheVariants as set

html-known : (s : TagSet) → list_all (λ member. list_any (bytes_eq member) names) (names_of s) ≡ true
unfolding names_of names
html-known set.DefaultScope = refl
html-known set.ListItemScope = refl
html-known set.ButtonScope = refl
html-known set.TableScope = refl
html-known set.TableBodyContext = refl
html-known set.TableRowContext = refl
html-known set.SpecialTag = refl
html-known set.CursoryImpliedEnd = refl
html-known set.ThoroughImpliedEnd = refl
html-known set.HeadingTag = refl
html-known set.FosterTarget = refl
html-known set.BodyEnd = refl
html-known set.FormAssociatable = refl
html-known set.Listed = refl
html-known set.MathmlTextIntegrationPoint = refl
html-known set.SvgHtmlIntegrationPoint = refl
html-known set.AnnotationXml = refl
html-known set.MglyphMalignmark = refl
html-known set.ForeignBreakout = refl
html-known set.BrP = refl
html-known set.HeadBodyHtmlBr = refl
html-known set.BodyHtmlBr = refl
html-known set.MetadataVoid = refl
html-known set.NoscriptContent = refl
html-known set.HeadContent = refl
html-known set.NoframesStyle = refl
html-known set.HeadNoscript = refl
html-known set.Block = refl
html-known set.BlockEnd = refl
html-known set.PreListing = refl
html-known set.DdDt = refl
html-known set.AddressDivP = refl
html-known set.FormattingTag = refl
html-known set.FormattingEnd = refl
html-known set.AppletMarqueeObject = refl
html-known set.VoidTag = refl
html-known set.ParamSourceTrack = refl
html-known set.OptionOptgroup = refl
html-known set.RbRtc = refl
html-known set.RpRt = refl
html-known set.RtcRuby = refl
html-known set.TablePart = refl
html-known set.TbodyTfootThead = refl
html-known set.TdTh = refl
html-known set.TdThTr = refl
html-known set.TableTbodyTfoot = refl
html-known set.StyleScriptTemplate = refl
html-known set.InTableIgnoredEnd = refl
html-known set.InCaptionIgnoredEnd = refl
html-known set.InTableBodyIgnoredEnd = refl
html-known set.InRowIgnoredEnd = refl
html-known set.InCellIgnoredEnd = refl
html-known set.CaptionCloser = refl
html-known set.TableBodyCloser = refl
html-known set.RowCloser = refl
html-known set.CellCloserEnd = refl
html-known set.TableTemplate = refl
html-known set.RcdataContext = refl
html-known set.RawtextContext = refl
html-known set.A = refl
html-known set.Body = refl
html-known set.Br = refl
html-known set.Button = refl
html-known set.Caption = refl
html-known set.Col = refl
html-known set.Colgroup = refl
html-known set.Font = refl
html-known set.Form = refl
html-known set.Frame = refl
html-known set.Frameset = refl
html-known set.Head = refl
html-known set.Hr = refl
html-known set.Html = refl
html-known set.Iframe = refl
html-known set.Image = refl
html-known set.Input = refl
html-known set.Li = refl
html-known set.Math = refl
html-known set.Nobr = refl
html-known set.Noembed = refl
html-known set.Noframes = refl
html-known set.Noscript = refl
html-known set.Optgroup = refl
html-known set.Option = refl
html-known set.P = refl
html-known set.Plaintext = refl
html-known set.Ruby = refl
html-known set.Script = refl
html-known set.Rtc = refl
html-known set.Select = refl
html-known set.Svg = refl
html-known set.Table = refl
html-known set.Template = refl
html-known set.Textarea = refl
html-known set.Title = refl
html-known set.Tr = refl
html-known set.Xmp = refl
html-known set.StandardDefaultScope = refl
html-known set.StandardListItemScope = refl
html-known set.StandardButtonScope = refl
html-known set.StandardSpecialTag = refl
html-known set.StandardBodyEnd = refl

mathml-known : (s : TagSet) → list_all (λ member. list_any (bytes_eq member) names) (mathml_names_of s) ≡ true
unfolding mathml_names_of names
mathml-known set.DefaultScope = refl
mathml-known set.ListItemScope = refl
mathml-known set.ButtonScope = refl
mathml-known set.TableScope = refl
mathml-known set.TableBodyContext = refl
mathml-known set.TableRowContext = refl
mathml-known set.SpecialTag = refl
mathml-known set.CursoryImpliedEnd = refl
mathml-known set.ThoroughImpliedEnd = refl
mathml-known set.HeadingTag = refl
mathml-known set.FosterTarget = refl
mathml-known set.BodyEnd = refl
mathml-known set.FormAssociatable = refl
mathml-known set.Listed = refl
mathml-known set.MathmlTextIntegrationPoint = refl
mathml-known set.SvgHtmlIntegrationPoint = refl
mathml-known set.AnnotationXml = refl
mathml-known set.MglyphMalignmark = refl
mathml-known set.ForeignBreakout = refl
mathml-known set.BrP = refl
mathml-known set.HeadBodyHtmlBr = refl
mathml-known set.BodyHtmlBr = refl
mathml-known set.MetadataVoid = refl
mathml-known set.NoscriptContent = refl
mathml-known set.HeadContent = refl
mathml-known set.NoframesStyle = refl
mathml-known set.HeadNoscript = refl
mathml-known set.Block = refl
mathml-known set.BlockEnd = refl
mathml-known set.PreListing = refl
mathml-known set.DdDt = refl
mathml-known set.AddressDivP = refl
mathml-known set.FormattingTag = refl
mathml-known set.FormattingEnd = refl
mathml-known set.AppletMarqueeObject = refl
mathml-known set.VoidTag = refl
mathml-known set.ParamSourceTrack = refl
mathml-known set.OptionOptgroup = refl
mathml-known set.RbRtc = refl
mathml-known set.RpRt = refl
mathml-known set.RtcRuby = refl
mathml-known set.TablePart = refl
mathml-known set.TbodyTfootThead = refl
mathml-known set.TdTh = refl
mathml-known set.TdThTr = refl
mathml-known set.TableTbodyTfoot = refl
mathml-known set.StyleScriptTemplate = refl
mathml-known set.InTableIgnoredEnd = refl
mathml-known set.InCaptionIgnoredEnd = refl
mathml-known set.InTableBodyIgnoredEnd = refl
mathml-known set.InRowIgnoredEnd = refl
mathml-known set.InCellIgnoredEnd = refl
mathml-known set.CaptionCloser = refl
mathml-known set.TableBodyCloser = refl
mathml-known set.RowCloser = refl
mathml-known set.CellCloserEnd = refl
mathml-known set.TableTemplate = refl
mathml-known set.RcdataContext = refl
mathml-known set.RawtextContext = refl
mathml-known set.A = refl
mathml-known set.Body = refl
mathml-known set.Br = refl
mathml-known set.Button = refl
mathml-known set.Caption = refl
mathml-known set.Col = refl
mathml-known set.Colgroup = refl
mathml-known set.Font = refl
mathml-known set.Form = refl
mathml-known set.Frame = refl
mathml-known set.Frameset = refl
mathml-known set.Head = refl
mathml-known set.Hr = refl
mathml-known set.Html = refl
mathml-known set.Iframe = refl
mathml-known set.Image = refl
mathml-known set.Input = refl
mathml-known set.Li = refl
mathml-known set.Math = refl
mathml-known set.Nobr = refl
mathml-known set.Noembed = refl
mathml-known set.Noframes = refl
mathml-known set.Noscript = refl
mathml-known set.Optgroup = refl
mathml-known set.Option = refl
mathml-known set.P = refl
mathml-known set.Plaintext = refl
mathml-known set.Ruby = refl
mathml-known set.Script = refl
mathml-known set.Rtc = refl
mathml-known set.Select = refl
mathml-known set.Svg = refl
mathml-known set.Table = refl
mathml-known set.Template = refl
mathml-known set.Textarea = refl
mathml-known set.Title = refl
mathml-known set.Tr = refl
mathml-known set.Xmp = refl
mathml-known set.StandardDefaultScope = refl
mathml-known set.StandardListItemScope = refl
mathml-known set.StandardButtonScope = refl
mathml-known set.StandardSpecialTag = refl
mathml-known set.StandardBodyEnd = refl

svg-known : (s : TagSet) → list_all (λ member. list_any (bytes_eq member) names) (svg_names_of s) ≡ true
unfolding svg_names_of names
svg-known set.DefaultScope = refl
svg-known set.ListItemScope = refl
svg-known set.ButtonScope = refl
svg-known set.TableScope = refl
svg-known set.TableBodyContext = refl
svg-known set.TableRowContext = refl
svg-known set.SpecialTag = refl
svg-known set.CursoryImpliedEnd = refl
svg-known set.ThoroughImpliedEnd = refl
svg-known set.HeadingTag = refl
svg-known set.FosterTarget = refl
svg-known set.BodyEnd = refl
svg-known set.FormAssociatable = refl
svg-known set.Listed = refl
svg-known set.MathmlTextIntegrationPoint = refl
svg-known set.SvgHtmlIntegrationPoint = refl
svg-known set.AnnotationXml = refl
svg-known set.MglyphMalignmark = refl
svg-known set.ForeignBreakout = refl
svg-known set.BrP = refl
svg-known set.HeadBodyHtmlBr = refl
svg-known set.BodyHtmlBr = refl
svg-known set.MetadataVoid = refl
svg-known set.NoscriptContent = refl
svg-known set.HeadContent = refl
svg-known set.NoframesStyle = refl
svg-known set.HeadNoscript = refl
svg-known set.Block = refl
svg-known set.BlockEnd = refl
svg-known set.PreListing = refl
svg-known set.DdDt = refl
svg-known set.AddressDivP = refl
svg-known set.FormattingTag = refl
svg-known set.FormattingEnd = refl
svg-known set.AppletMarqueeObject = refl
svg-known set.VoidTag = refl
svg-known set.ParamSourceTrack = refl
svg-known set.OptionOptgroup = refl
svg-known set.RbRtc = refl
svg-known set.RpRt = refl
svg-known set.RtcRuby = refl
svg-known set.TablePart = refl
svg-known set.TbodyTfootThead = refl
svg-known set.TdTh = refl
svg-known set.TdThTr = refl
svg-known set.TableTbodyTfoot = refl
svg-known set.StyleScriptTemplate = refl
svg-known set.InTableIgnoredEnd = refl
svg-known set.InCaptionIgnoredEnd = refl
svg-known set.InTableBodyIgnoredEnd = refl
svg-known set.InRowIgnoredEnd = refl
svg-known set.InCellIgnoredEnd = refl
svg-known set.CaptionCloser = refl
svg-known set.TableBodyCloser = refl
svg-known set.RowCloser = refl
svg-known set.CellCloserEnd = refl
svg-known set.TableTemplate = refl
svg-known set.RcdataContext = refl
svg-known set.RawtextContext = refl
svg-known set.A = refl
svg-known set.Body = refl
svg-known set.Br = refl
svg-known set.Button = refl
svg-known set.Caption = refl
svg-known set.Col = refl
svg-known set.Colgroup = refl
svg-known set.Font = refl
svg-known set.Form = refl
svg-known set.Frame = refl
svg-known set.Frameset = refl
svg-known set.Head = refl
svg-known set.Hr = refl
svg-known set.Html = refl
svg-known set.Iframe = refl
svg-known set.Image = refl
svg-known set.Input = refl
svg-known set.Li = refl
svg-known set.Math = refl
svg-known set.Nobr = refl
svg-known set.Noembed = refl
svg-known set.Noframes = refl
svg-known set.Noscript = refl
svg-known set.Optgroup = refl
svg-known set.Option = refl
svg-known set.P = refl
svg-known set.Plaintext = refl
svg-known set.Ruby = refl
svg-known set.Script = refl
svg-known set.Rtc = refl
svg-known set.Select = refl
svg-known set.Svg = refl
svg-known set.Table = refl
svg-known set.Template = refl
svg-known set.Textarea = refl
svg-known set.Title = refl
svg-known set.Tr = refl
svg-known set.Xmp = refl
svg-known set.StandardDefaultScope = refl
svg-known set.StandardListItemScope = refl
svg-known set.StandardButtonScope = refl
svg-known set.StandardSpecialTag = refl
svg-known set.StandardBodyEnd = refl

known : (space : Namespace) (s : TagSet) → list_all (λ member. list_any (bytes_eq member) names) (names_in space s) ≡ true
known Html s = html-known s
known MathMl s = mathml-known s
known Svg s = svg-known s
known (Other uri) s = refl

none_among : (name : List ℕ) (members texts : List (List ℕ)) → list_any (bytes_eq name) texts ≡ false
    → list_all (λ member. list_any (bytes_eq member) texts) members ≡ true → is_among name members ≡ false
none_among name [] texts h k = refl
none_among name (m ∷ members) texts h k =
    let parts = and_parts _ _ k in
    by (bytes_eq name m) refl parts.0 (none_among name members texts h parts.1)
  where
    by : (b : Bool) → bytes_eq name m ≡ b → list_any (bytes_eq m) texts ≡ true → is_among name members ≡ false
        → (bytes_eq name m || is_among name members) ≡ false
    by true e known rest = let same : name ≡ m = (bytes_eq-Decides name m).0 e in absurd (cc (ap (λ t. list_any (bytes_eq t) texts) same))
    by false e known rest = rw e rest

-- a name that is not known is in no set
pub unknown-among : (space : Namespace) (name : List ℕ) (s : TagSet) → list_any (bytes_eq name) names ≡ false
    → is_among name (names_in space s) ≡ false
unknown-among space name s h = none_among name (names_in space s) names h (known space s)
