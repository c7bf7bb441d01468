-- The rows of sets are right: a row has a set's bit just where its name is in the set.
use Rattle.std.proofs.Common.{◌≡◌, ℕ, zero, suc, ◌<◌, Bool, true, false, List, [], ◌∷◌, length, get_or, refl, ap, ◌∙◌, zero-add, arith}
use Rattle.std.specs.Prelude.{◌&&◌, ◌==◌, map}
use Rattle.std.specs.Int.{bit_at}
use Rattle.std.specs.List.{range_with_len}
use Rattle.std.proofs.lemmas.Bool.{and_parts}
use Rattle.std.proofs.lemmas.List.{get_or-map}
use Rattle.std.proofs.lemmas.List.FromFn.{get_or-range_with_len, length-range_with_len}
use Rattle.markup.specs.KnownNames.{names}
use Rattle.html_rules.specs.Sets.{is_among, mathml_names_of, names_of, svg_names_of}
use Rattle.html_rules.specs.declared.tag_set.TagSet.{TagSet}
use Rattle.html_rules.specs.declared.tag_set.TagSet.TheVariants as set
use Rattle.html_names.specs.SetBits.{has_set, number_of}
use Rattle.html_names.specs.SetRows.{html_row, mathml_row, svg_row}
use Rattle.html_names.specs.declared.set_rows.TheConstants.{HTML_SETS}

unfoldable is_same : Bool → Bool → Bool
is_same true b = b
is_same false true = false
is_same false false = true

is_same-same : (a b : Bool) → is_same a b ≡ true → a ≡ b
unfolding is_same
is_same-same true true h = refl
is_same-same true false h = absurd cc
is_same-same false true h = absurd cc
is_same-same false false h = refl

-- each text is among others just where its row has a bit
unfoldable rows_fit : ℕ → List (List ℕ) → List (List ℕ) → List ℕ → Bool
rows_fit n members [] rows = true
rows_fit n members (t ∷ texts) [] = false
rows_fit n members (t ∷ texts) (row ∷ rows) = is_same (bit_at row n == 1) (is_among t members) && rows_fit n members texts rows

rows_fit-at : (n : ℕ) (members texts : List (List ℕ)) (rows : List ℕ) → rows_fit n members texts rows ≡ true
    → (k : ℕ) → k < length texts → (bit_at (get_or rows k 0) n == 1) ≡ is_among (get_or texts k []) members
unfolding rows_fit
rows_fit-at n members [] rows h k l = absurd (omega arith)
rows_fit-at n members (t ∷ texts) [] h k l = absurd cc
rows_fit-at n members (t ∷ texts) (row ∷ rows) h zero l = is_same-same _ _ (and_parts _ _ h).0
rows_fit-at n members (t ∷ texts) (row ∷ rows) h (suc k) l = rows_fit-at n members texts rows (and_parts _ _ h).1 k (omega arith)

rows_at : (row : ℕ → ℕ) (k n : ℕ) → k < n → get_or (map row (range_with_len 0 n)) k 0 ≡ row k
rows_at row k n l =
    let inside : k < length (range_with_len 0 n) = rw length-range_with_len l in
    let at : get_or (range_with_len 0 n) k 0 ≡ k = get_or-range_with_len 0 n k 0 l ∙ zero-add k in
    get_or-map row (range_with_len 0 n) k 0 0 inside ∙ ap row at

html-fits : (s : TagSet) → rows_fit (number_of s) (names_of s) names HTML_SETS ≡ true
unfolding number_of names_of names is_same rows_fit
html-fits set.DefaultScope = refl
html-fits set.ListItemScope = refl
html-fits set.ButtonScope = refl
html-fits set.TableScope = refl
html-fits set.TableBodyContext = refl
html-fits set.TableRowContext = refl
html-fits set.SpecialTag = refl
html-fits set.CursoryImpliedEnd = refl
html-fits set.ThoroughImpliedEnd = refl
html-fits set.HeadingTag = refl
html-fits set.FosterTarget = refl
html-fits set.BodyEnd = refl
html-fits set.FormAssociatable = refl
html-fits set.Listed = refl
html-fits set.MathmlTextIntegrationPoint = refl
html-fits set.SvgHtmlIntegrationPoint = refl
html-fits set.AnnotationXml = refl
html-fits set.MglyphMalignmark = refl
html-fits set.ForeignBreakout = refl
html-fits set.BrP = refl
html-fits set.HeadBodyHtmlBr = refl
html-fits set.BodyHtmlBr = refl
html-fits set.MetadataVoid = refl
html-fits set.NoscriptContent = refl
html-fits set.HeadContent = refl
html-fits set.NoframesStyle = refl
html-fits set.HeadNoscript = refl
html-fits set.Block = refl
html-fits set.BlockEnd = refl
html-fits set.PreListing = refl
html-fits set.DdDt = refl
html-fits set.AddressDivP = refl
html-fits set.FormattingTag = refl
html-fits set.FormattingEnd = refl
html-fits set.AppletMarqueeObject = refl
html-fits set.VoidTag = refl
html-fits set.ParamSourceTrack = refl
html-fits set.OptionOptgroup = refl
html-fits set.RbRtc = refl
html-fits set.RpRt = refl
html-fits set.RtcRuby = refl
html-fits set.TablePart = refl
html-fits set.TbodyTfootThead = refl
html-fits set.TdTh = refl
html-fits set.TdThTr = refl
html-fits set.TableTbodyTfoot = refl
html-fits set.StyleScriptTemplate = refl
html-fits set.InTableIgnoredEnd = refl
html-fits set.InCaptionIgnoredEnd = refl
html-fits set.InTableBodyIgnoredEnd = refl
html-fits set.InRowIgnoredEnd = refl
html-fits set.InCellIgnoredEnd = refl
html-fits set.CaptionCloser = refl
html-fits set.TableBodyCloser = refl
html-fits set.RowCloser = refl
html-fits set.CellCloserEnd = refl
html-fits set.TableTemplate = refl
html-fits set.RcdataContext = refl
html-fits set.RawtextContext = refl
html-fits set.A = refl
html-fits set.Body = refl
html-fits set.Br = refl
html-fits set.Button = refl
html-fits set.Caption = refl
html-fits set.Col = refl
html-fits set.Colgroup = refl
html-fits set.Font = refl
html-fits set.Form = refl
html-fits set.Frame = refl
html-fits set.Frameset = refl
html-fits set.Head = refl
html-fits set.Hr = refl
html-fits set.Html = refl
html-fits set.Iframe = refl
html-fits set.Image = refl
html-fits set.Input = refl
html-fits set.Li = refl
html-fits set.Math = refl
html-fits set.Nobr = refl
html-fits set.Noembed = refl
html-fits set.Noframes = refl
html-fits set.Noscript = refl
html-fits set.Optgroup = refl
html-fits set.Option = refl
html-fits set.P = refl
html-fits set.Plaintext = refl
html-fits set.Ruby = refl
html-fits set.Script = refl
html-fits set.Rtc = refl
html-fits set.Select = refl
html-fits set.Svg = refl
html-fits set.Table = refl
html-fits set.Template = refl
html-fits set.Textarea = refl
html-fits set.Title = refl
html-fits set.Tr = refl
html-fits set.Xmp = refl
html-fits set.StandardDefaultScope = refl
html-fits set.StandardListItemScope = refl
html-fits set.StandardButtonScope = refl
html-fits set.StandardSpecialTag = refl
html-fits set.StandardBodyEnd = refl

mathml-fits : (s : TagSet) → rows_fit (number_of s) (mathml_names_of s) names (map mathml_row (range_with_len 0 626)) ≡ true
unfolding number_of mathml_names_of names is_same rows_fit
mathml-fits set.DefaultScope = refl
mathml-fits set.ListItemScope = refl
mathml-fits set.ButtonScope = refl
mathml-fits set.TableScope = refl
mathml-fits set.TableBodyContext = refl
mathml-fits set.TableRowContext = refl
mathml-fits set.SpecialTag = refl
mathml-fits set.CursoryImpliedEnd = refl
mathml-fits set.ThoroughImpliedEnd = refl
mathml-fits set.HeadingTag = refl
mathml-fits set.FosterTarget = refl
mathml-fits set.BodyEnd = refl
mathml-fits set.FormAssociatable = refl
mathml-fits set.Listed = refl
mathml-fits set.MathmlTextIntegrationPoint = refl
mathml-fits set.SvgHtmlIntegrationPoint = refl
mathml-fits set.AnnotationXml = refl
mathml-fits set.MglyphMalignmark = refl
mathml-fits set.ForeignBreakout = refl
mathml-fits set.BrP = refl
mathml-fits set.HeadBodyHtmlBr = refl
mathml-fits set.BodyHtmlBr = refl
mathml-fits set.MetadataVoid = refl
mathml-fits set.NoscriptContent = refl
mathml-fits set.HeadContent = refl
mathml-fits set.NoframesStyle = refl
mathml-fits set.HeadNoscript = refl
mathml-fits set.Block = refl
mathml-fits set.BlockEnd = refl
mathml-fits set.PreListing = refl
mathml-fits set.DdDt = refl
mathml-fits set.AddressDivP = refl
mathml-fits set.FormattingTag = refl
mathml-fits set.FormattingEnd = refl
mathml-fits set.AppletMarqueeObject = refl
mathml-fits set.VoidTag = refl
mathml-fits set.ParamSourceTrack = refl
mathml-fits set.OptionOptgroup = refl
mathml-fits set.RbRtc = refl
mathml-fits set.RpRt = refl
mathml-fits set.RtcRuby = refl
mathml-fits set.TablePart = refl
mathml-fits set.TbodyTfootThead = refl
mathml-fits set.TdTh = refl
mathml-fits set.TdThTr = refl
mathml-fits set.TableTbodyTfoot = refl
mathml-fits set.StyleScriptTemplate = refl
mathml-fits set.InTableIgnoredEnd = refl
mathml-fits set.InCaptionIgnoredEnd = refl
mathml-fits set.InTableBodyIgnoredEnd = refl
mathml-fits set.InRowIgnoredEnd = refl
mathml-fits set.InCellIgnoredEnd = refl
mathml-fits set.CaptionCloser = refl
mathml-fits set.TableBodyCloser = refl
mathml-fits set.RowCloser = refl
mathml-fits set.CellCloserEnd = refl
mathml-fits set.TableTemplate = refl
mathml-fits set.RcdataContext = refl
mathml-fits set.RawtextContext = refl
mathml-fits set.A = refl
mathml-fits set.Body = refl
mathml-fits set.Br = refl
mathml-fits set.Button = refl
mathml-fits set.Caption = refl
mathml-fits set.Col = refl
mathml-fits set.Colgroup = refl
mathml-fits set.Font = refl
mathml-fits set.Form = refl
mathml-fits set.Frame = refl
mathml-fits set.Frameset = refl
mathml-fits set.Head = refl
mathml-fits set.Hr = refl
mathml-fits set.Html = refl
mathml-fits set.Iframe = refl
mathml-fits set.Image = refl
mathml-fits set.Input = refl
mathml-fits set.Li = refl
mathml-fits set.Math = refl
mathml-fits set.Nobr = refl
mathml-fits set.Noembed = refl
mathml-fits set.Noframes = refl
mathml-fits set.Noscript = refl
mathml-fits set.Optgroup = refl
mathml-fits set.Option = refl
mathml-fits set.P = refl
mathml-fits set.Plaintext = refl
mathml-fits set.Ruby = refl
mathml-fits set.Script = refl
mathml-fits set.Rtc = refl
mathml-fits set.Select = refl
mathml-fits set.Svg = refl
mathml-fits set.Table = refl
mathml-fits set.Template = refl
mathml-fits set.Textarea = refl
mathml-fits set.Title = refl
mathml-fits set.Tr = refl
mathml-fits set.Xmp = refl
mathml-fits set.StandardDefaultScope = refl
mathml-fits set.StandardListItemScope = refl
mathml-fits set.StandardButtonScope = refl
mathml-fits set.StandardSpecialTag = refl
mathml-fits set.StandardBodyEnd = refl

svg-fits : (s : TagSet) → rows_fit (number_of s) (svg_names_of s) names (map svg_row (range_with_len 0 626)) ≡ true
unfolding number_of svg_names_of names is_same rows_fit
svg-fits set.DefaultScope = refl
svg-fits set.ListItemScope = refl
svg-fits set.ButtonScope = refl
svg-fits set.TableScope = refl
svg-fits set.TableBodyContext = refl
svg-fits set.TableRowContext = refl
svg-fits set.SpecialTag = refl
svg-fits set.CursoryImpliedEnd = refl
svg-fits set.ThoroughImpliedEnd = refl
svg-fits set.HeadingTag = refl
svg-fits set.FosterTarget = refl
svg-fits set.BodyEnd = refl
svg-fits set.FormAssociatable = refl
svg-fits set.Listed = refl
svg-fits set.MathmlTextIntegrationPoint = refl
svg-fits set.SvgHtmlIntegrationPoint = refl
svg-fits set.AnnotationXml = refl
svg-fits set.MglyphMalignmark = refl
svg-fits set.ForeignBreakout = refl
svg-fits set.BrP = refl
svg-fits set.HeadBodyHtmlBr = refl
svg-fits set.BodyHtmlBr = refl
svg-fits set.MetadataVoid = refl
svg-fits set.NoscriptContent = refl
svg-fits set.HeadContent = refl
svg-fits set.NoframesStyle = refl
svg-fits set.HeadNoscript = refl
svg-fits set.Block = refl
svg-fits set.BlockEnd = refl
svg-fits set.PreListing = refl
svg-fits set.DdDt = refl
svg-fits set.AddressDivP = refl
svg-fits set.FormattingTag = refl
svg-fits set.FormattingEnd = refl
svg-fits set.AppletMarqueeObject = refl
svg-fits set.VoidTag = refl
svg-fits set.ParamSourceTrack = refl
svg-fits set.OptionOptgroup = refl
svg-fits set.RbRtc = refl
svg-fits set.RpRt = refl
svg-fits set.RtcRuby = refl
svg-fits set.TablePart = refl
svg-fits set.TbodyTfootThead = refl
svg-fits set.TdTh = refl
svg-fits set.TdThTr = refl
svg-fits set.TableTbodyTfoot = refl
svg-fits set.StyleScriptTemplate = refl
svg-fits set.InTableIgnoredEnd = refl
svg-fits set.InCaptionIgnoredEnd = refl
svg-fits set.InTableBodyIgnoredEnd = refl
svg-fits set.InRowIgnoredEnd = refl
svg-fits set.InCellIgnoredEnd = refl
svg-fits set.CaptionCloser = refl
svg-fits set.TableBodyCloser = refl
svg-fits set.RowCloser = refl
svg-fits set.CellCloserEnd = refl
svg-fits set.TableTemplate = refl
svg-fits set.RcdataContext = refl
svg-fits set.RawtextContext = refl
svg-fits set.A = refl
svg-fits set.Body = refl
svg-fits set.Br = refl
svg-fits set.Button = refl
svg-fits set.Caption = refl
svg-fits set.Col = refl
svg-fits set.Colgroup = refl
svg-fits set.Font = refl
svg-fits set.Form = refl
svg-fits set.Frame = refl
svg-fits set.Frameset = refl
svg-fits set.Head = refl
svg-fits set.Hr = refl
svg-fits set.Html = refl
svg-fits set.Iframe = refl
svg-fits set.Image = refl
svg-fits set.Input = refl
svg-fits set.Li = refl
svg-fits set.Math = refl
svg-fits set.Nobr = refl
svg-fits set.Noembed = refl
svg-fits set.Noframes = refl
svg-fits set.Noscript = refl
svg-fits set.Optgroup = refl
svg-fits set.Option = refl
svg-fits set.P = refl
svg-fits set.Plaintext = refl
svg-fits set.Ruby = refl
svg-fits set.Script = refl
svg-fits set.Rtc = refl
svg-fits set.Select = refl
svg-fits set.Svg = refl
svg-fits set.Table = refl
svg-fits set.Template = refl
svg-fits set.Textarea = refl
svg-fits set.Title = refl
svg-fits set.Tr = refl
svg-fits set.Xmp = refl
svg-fits set.StandardDefaultScope = refl
svg-fits set.StandardListItemScope = refl
svg-fits set.StandardButtonScope = refl
svg-fits set.StandardSpecialTag = refl
svg-fits set.StandardBodyEnd = refl

pub html-row : (k : ℕ) → k < length names → (s : TagSet) → has_set (html_row k) s ≡ is_among (get_or names k []) (names_of s)
unfolding html_row
html-row k l s = rows_fit-at (number_of s) (names_of s) names HTML_SETS (html-fits s) k l

few : length names ≡ 626
unfolding names
few = refl

pub mathml-row : (k : ℕ) → k < length names → (s : TagSet) → has_set (mathml_row k) s ≡ is_among (get_or names k []) (mathml_names_of s)
mathml-row k l s = let l' : k < 626 = omega (arith, few) in rw (← rows_at mathml_row k 626 l')
    (rows_fit-at (number_of s) (mathml_names_of s) names (map mathml_row (range_with_len 0 626)) (mathml-fits s) k l)

pub svg-row : (k : ℕ) → k < length names → (s : TagSet) → has_set (svg_row k) s ≡ is_among (get_or names k []) (svg_names_of s)
svg-row k l s = let l' : k < 626 = omega (arith, few) in rw (← rows_at svg_row k 626 l')
    (rows_fit-at (number_of s) (svg_names_of s) names (map svg_row (range_with_len 0 626)) (svg-fits s) k l)
