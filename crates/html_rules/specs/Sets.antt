-- Which names are in each set (HTML Standard, sections 13.2.4.2 and 13.2.6).
use Rattle.std.specs.Prelude.{ℕ, Bool, false, ◌||◌, List, [], ◌∷◌, codes}
use Rattle.std.specs.Str.{bytes_eq}
use Rattle.html_rules.specs.Names.{Namespace, Html, MathMl, Svg, Other}
use Rattle.html_rules.specs.declared.rules.Rules.{Rules}
use Rattle.html_rules.specs.declared.rules.Rules.TheVariants.{Html5ever, Standard}
use Rattle.html_rules.specs.declared.tag_set.TagSet.{TagSet}
use Rattle.html_rules.specs.declared.tag_set.TagSet.TheVariants as set

-- whether a name is one of these
abbrev pub is_among : List ℕ → List (List ℕ) → Bool
is_among name [] = false
is_among name (x ∷ xs) = bytes_eq name x || is_among name xs

-- the names of HTML elements in a set
unfoldable pub names_of : TagSet → List (List ℕ)
names_of set.DefaultScope = codes "applet" ∷ codes "caption" ∷ codes "html" ∷ codes "table" ∷ codes "td" ∷
    codes "th" ∷ codes "marquee" ∷ codes "object" ∷ codes "select" ∷ codes "template" ∷ []
names_of set.ListItemScope = codes "applet" ∷ codes "caption" ∷ codes "html" ∷ codes "table" ∷ codes "td" ∷
    codes "th" ∷ codes "marquee" ∷ codes "object" ∷ codes "select" ∷ codes "template" ∷ codes "ol" ∷ codes "ul" ∷ []
names_of set.ButtonScope = codes "applet" ∷ codes "caption" ∷ codes "html" ∷ codes "table" ∷ codes "td" ∷
    codes "th" ∷ codes "marquee" ∷ codes "object" ∷ codes "select" ∷ codes "template" ∷ codes "button" ∷ []
names_of set.TableScope = codes "html" ∷ codes "table" ∷ codes "template" ∷ []
names_of set.TableBodyContext = codes "tbody" ∷ codes "tfoot" ∷ codes "thead" ∷ codes "template" ∷ codes "html" ∷ []
names_of set.TableRowContext = codes "tr" ∷ codes "template" ∷ codes "html" ∷ []
names_of set.SpecialTag = codes "address" ∷ codes "applet" ∷ codes "area" ∷ codes "article" ∷ codes "aside" ∷
    codes "base" ∷ codes "basefont" ∷ codes "bgsound" ∷ codes "blockquote" ∷ codes "body" ∷ codes "br" ∷
    codes "button" ∷ codes "caption" ∷ codes "center" ∷ codes "col" ∷ codes "colgroup" ∷ codes "dd" ∷
    codes "details" ∷ codes "dir" ∷ codes "div" ∷ codes "dl" ∷ codes "dt" ∷ codes "embed" ∷ codes "fieldset" ∷
    codes "figcaption" ∷ codes "figure" ∷ codes "footer" ∷ codes "form" ∷ codes "frame" ∷ codes "frameset" ∷
    codes "h1" ∷ codes "h2" ∷ codes "h3" ∷ codes "h4" ∷ codes "h5" ∷ codes "h6" ∷ codes "head" ∷ codes "header" ∷
    codes "hgroup" ∷ codes "hr" ∷ codes "html" ∷ codes "iframe" ∷ codes "img" ∷ codes "input" ∷ codes "isindex" ∷
    codes "li" ∷ codes "link" ∷ codes "listing" ∷ codes "main" ∷ codes "marquee" ∷ codes "menu" ∷ codes "meta" ∷
    codes "nav" ∷ codes "noembed" ∷ codes "noframes" ∷ codes "noscript" ∷ codes "object" ∷ codes "ol" ∷ codes "p" ∷
    codes "param" ∷ codes "plaintext" ∷ codes "pre" ∷ codes "script" ∷ codes "section" ∷ codes "select" ∷
    codes "source" ∷ codes "style" ∷ codes "summary" ∷ codes "table" ∷ codes "tbody" ∷ codes "td" ∷
    codes "template" ∷ codes "textarea" ∷ codes "tfoot" ∷ codes "th" ∷ codes "thead" ∷ codes "title" ∷ codes "tr" ∷
    codes "track" ∷ codes "ul" ∷ codes "wbr" ∷ codes "xmp" ∷ []
names_of set.CursoryImpliedEnd = codes "dd" ∷ codes "dt" ∷ codes "li" ∷ codes "option" ∷ codes "optgroup" ∷
    codes "p" ∷ codes "rb" ∷ codes "rp" ∷ codes "rt" ∷ codes "rtc" ∷ []
names_of set.ThoroughImpliedEnd = codes "dd" ∷ codes "dt" ∷ codes "li" ∷ codes "option" ∷ codes "optgroup" ∷
    codes "p" ∷ codes "rb" ∷ codes "rp" ∷ codes "rt" ∷ codes "rtc" ∷ codes "caption" ∷ codes "colgroup" ∷
    codes "tbody" ∷ codes "td" ∷ codes "tfoot" ∷ codes "th" ∷ codes "thead" ∷ codes "tr" ∷ []
names_of set.HeadingTag = codes "h1" ∷ codes "h2" ∷ codes "h3" ∷ codes "h4" ∷ codes "h5" ∷ codes "h6" ∷ []
names_of set.FosterTarget = codes "table" ∷ codes "tbody" ∷ codes "tfoot" ∷ codes "thead" ∷ codes "tr" ∷ []
names_of set.BodyEnd = codes "dd" ∷ codes "dt" ∷ codes "li" ∷ codes "optgroup" ∷ codes "option" ∷ codes "p" ∷
    codes "rp" ∷ codes "rt" ∷ codes "tbody" ∷ codes "td" ∷ codes "tfoot" ∷ codes "th" ∷ codes "thead" ∷ codes "tr" ∷
    codes "body" ∷ codes "html" ∷ []
names_of set.FormAssociatable = codes "button" ∷ codes "fieldset" ∷ codes "input" ∷ codes "object" ∷
    codes "output" ∷ codes "select" ∷ codes "textarea" ∷ codes "img" ∷ []
names_of set.Listed = codes "button" ∷ codes "fieldset" ∷ codes "input" ∷ codes "object" ∷ codes "output" ∷
    codes "select" ∷ codes "textarea" ∷ []
names_of set.MathmlTextIntegrationPoint = []
names_of set.SvgHtmlIntegrationPoint = []
names_of set.AnnotationXml = []
names_of set.MglyphMalignmark = codes "mglyph" ∷ codes "malignmark" ∷ []
names_of set.ForeignBreakout = codes "b" ∷ codes "big" ∷ codes "blockquote" ∷ codes "body" ∷ codes "br" ∷
    codes "center" ∷ codes "code" ∷ codes "dd" ∷ codes "div" ∷ codes "dl" ∷ codes "dt" ∷ codes "em" ∷
    codes "embed" ∷ codes "h1" ∷ codes "h2" ∷ codes "h3" ∷ codes "h4" ∷ codes "h5" ∷ codes "h6" ∷ codes "head" ∷
    codes "hr" ∷ codes "i" ∷ codes "img" ∷ codes "li" ∷ codes "listing" ∷ codes "menu" ∷ codes "meta" ∷
    codes "nobr" ∷ codes "ol" ∷ codes "p" ∷ codes "pre" ∷ codes "ruby" ∷ codes "s" ∷ codes "small" ∷ codes "span" ∷
    codes "strong" ∷ codes "strike" ∷ codes "sub" ∷ codes "sup" ∷ codes "table" ∷ codes "tt" ∷ codes "u" ∷ codes "ul" ∷ codes "var" ∷ []
names_of set.BrP = codes "br" ∷ codes "p" ∷ []
names_of set.HeadBodyHtmlBr = codes "head" ∷ codes "body" ∷ codes "html" ∷ codes "br" ∷ []
names_of set.BodyHtmlBr = codes "body" ∷ codes "html" ∷ codes "br" ∷ []
names_of set.MetadataVoid = codes "base" ∷ codes "basefont" ∷ codes "bgsound" ∷ codes "link" ∷ codes "meta" ∷ []
names_of set.NoscriptContent = codes "basefont" ∷ codes "bgsound" ∷ codes "link" ∷ codes "meta" ∷ codes "noframes" ∷ codes "style" ∷ []
names_of set.HeadContent = codes "base" ∷ codes "basefont" ∷ codes "bgsound" ∷ codes "link" ∷ codes "meta" ∷
    codes "noframes" ∷ codes "script" ∷ codes "style" ∷ codes "template" ∷ codes "title" ∷ []
names_of set.NoframesStyle = codes "noframes" ∷ codes "style" ∷ []
names_of set.HeadNoscript = codes "head" ∷ codes "noscript" ∷ []
names_of set.Block = codes "address" ∷ codes "article" ∷ codes "aside" ∷ codes "blockquote" ∷ codes "center" ∷
    codes "details" ∷ codes "dialog" ∷ codes "dir" ∷ codes "div" ∷ codes "dl" ∷ codes "fieldset" ∷
    codes "figcaption" ∷ codes "figure" ∷ codes "footer" ∷ codes "header" ∷ codes "hgroup" ∷ codes "main" ∷
    codes "menu" ∷ codes "nav" ∷ codes "ol" ∷ codes "p" ∷ codes "search" ∷ codes "section" ∷ codes "summary" ∷ codes "ul" ∷ []
names_of set.BlockEnd = codes "address" ∷ codes "article" ∷ codes "aside" ∷ codes "blockquote" ∷ codes "button" ∷
    codes "center" ∷ codes "details" ∷ codes "dialog" ∷ codes "dir" ∷ codes "div" ∷ codes "dl" ∷ codes "fieldset" ∷
    codes "figcaption" ∷ codes "figure" ∷ codes "footer" ∷ codes "header" ∷ codes "hgroup" ∷ codes "listing" ∷
    codes "main" ∷ codes "menu" ∷ codes "nav" ∷ codes "ol" ∷ codes "pre" ∷ codes "search" ∷ codes "section" ∷
    codes "select" ∷ codes "summary" ∷ codes "ul" ∷ []
names_of set.PreListing = codes "pre" ∷ codes "listing" ∷ []
names_of set.DdDt = codes "dd" ∷ codes "dt" ∷ []
names_of set.AddressDivP = codes "address" ∷ codes "div" ∷ codes "p" ∷ []
names_of set.FormattingTag = codes "b" ∷ codes "big" ∷ codes "code" ∷ codes "em" ∷ codes "font" ∷ codes "i" ∷
    codes "s" ∷ codes "small" ∷ codes "strike" ∷ codes "strong" ∷ codes "tt" ∷ codes "u" ∷ []
names_of set.FormattingEnd = codes "a" ∷ codes "b" ∷ codes "big" ∷ codes "code" ∷ codes "em" ∷ codes "font" ∷
    codes "i" ∷ codes "nobr" ∷ codes "s" ∷ codes "small" ∷ codes "strike" ∷ codes "strong" ∷ codes "tt" ∷ codes "u" ∷ []
names_of set.AppletMarqueeObject = codes "applet" ∷ codes "marquee" ∷ codes "object" ∷ []
names_of set.VoidTag = codes "area" ∷ codes "br" ∷ codes "embed" ∷ codes "img" ∷ codes "keygen" ∷ codes "wbr" ∷ []
names_of set.ParamSourceTrack = codes "param" ∷ codes "source" ∷ codes "track" ∷ []
names_of set.OptionOptgroup = codes "option" ∷ codes "optgroup" ∷ []
names_of set.RbRtc = codes "rb" ∷ codes "rtc" ∷ []
names_of set.RpRt = codes "rp" ∷ codes "rt" ∷ []
names_of set.RtcRuby = codes "rtc" ∷ codes "ruby" ∷ []
names_of set.TablePart = codes "caption" ∷ codes "col" ∷ codes "colgroup" ∷ codes "frame" ∷ codes "head" ∷
    codes "tbody" ∷ codes "td" ∷ codes "tfoot" ∷ codes "th" ∷ codes "thead" ∷ codes "tr" ∷ []
names_of set.TbodyTfootThead = codes "tbody" ∷ codes "tfoot" ∷ codes "thead" ∷ []
names_of set.TdTh = codes "td" ∷ codes "th" ∷ []
names_of set.TdThTr = codes "td" ∷ codes "th" ∷ codes "tr" ∷ []
names_of set.TableTbodyTfoot = codes "table" ∷ codes "tbody" ∷ codes "tfoot" ∷ []
names_of set.StyleScriptTemplate = codes "style" ∷ codes "script" ∷ codes "template" ∷ []
names_of set.InTableIgnoredEnd = codes "body" ∷ codes "caption" ∷ codes "col" ∷ codes "colgroup" ∷ codes "html" ∷
    codes "tbody" ∷ codes "td" ∷ codes "tfoot" ∷ codes "th" ∷ codes "thead" ∷ codes "tr" ∷ []
names_of set.InCaptionIgnoredEnd = codes "body" ∷ codes "col" ∷ codes "colgroup" ∷ codes "html" ∷ codes "tbody" ∷
    codes "td" ∷ codes "tfoot" ∷ codes "th" ∷ codes "thead" ∷ codes "tr" ∷ []
names_of set.InTableBodyIgnoredEnd = codes "body" ∷ codes "caption" ∷ codes "col" ∷ codes "colgroup" ∷
    codes "html" ∷ codes "td" ∷ codes "th" ∷ codes "tr" ∷ []
names_of set.InRowIgnoredEnd = codes "body" ∷ codes "caption" ∷ codes "col" ∷ codes "colgroup" ∷ codes "html" ∷ codes "td" ∷ codes "th" ∷ []
names_of set.InCellIgnoredEnd = codes "body" ∷ codes "caption" ∷ codes "col" ∷ codes "colgroup" ∷ codes "html" ∷ []
names_of set.CaptionCloser = codes "caption" ∷ codes "col" ∷ codes "colgroup" ∷ codes "tbody" ∷ codes "td" ∷
    codes "tfoot" ∷ codes "th" ∷ codes "thead" ∷ codes "tr" ∷ []
names_of set.TableBodyCloser = codes "caption" ∷ codes "col" ∷ codes "colgroup" ∷ codes "tbody" ∷ codes "tfoot" ∷ codes "thead" ∷ []
names_of set.RowCloser = codes "caption" ∷ codes "col" ∷ codes "colgroup" ∷ codes "tbody" ∷ codes "tfoot" ∷ codes "thead" ∷ codes "tr" ∷ []
names_of set.CellCloserEnd = codes "table" ∷ codes "tbody" ∷ codes "tfoot" ∷ codes "thead" ∷ codes "tr" ∷ []
names_of set.TableTemplate = codes "caption" ∷ codes "colgroup" ∷ codes "tbody" ∷ codes "tfoot" ∷ codes "thead" ∷ []
names_of set.RcdataContext = codes "title" ∷ codes "textarea" ∷ []
names_of set.RawtextContext = codes "style" ∷ codes "xmp" ∷ codes "iframe" ∷ codes "noembed" ∷ codes "noframes" ∷ []
names_of set.A = codes "a" ∷ []
names_of set.Body = codes "body" ∷ []
names_of set.Br = codes "br" ∷ []
names_of set.Button = codes "button" ∷ []
names_of set.Caption = codes "caption" ∷ []
names_of set.Col = codes "col" ∷ []
names_of set.Colgroup = codes "colgroup" ∷ []
names_of set.Font = codes "font" ∷ []
names_of set.Form = codes "form" ∷ []
names_of set.Frame = codes "frame" ∷ []
names_of set.Frameset = codes "frameset" ∷ []
names_of set.Head = codes "head" ∷ []
names_of set.Hr = codes "hr" ∷ []
names_of set.Html = codes "html" ∷ []
names_of set.Iframe = codes "iframe" ∷ []
names_of set.Image = codes "image" ∷ []
names_of set.Input = codes "input" ∷ []
names_of set.Li = codes "li" ∷ []
names_of set.Math = codes "math" ∷ []
names_of set.Nobr = codes "nobr" ∷ []
names_of set.Noembed = codes "noembed" ∷ []
names_of set.Noframes = codes "noframes" ∷ []
names_of set.Noscript = codes "noscript" ∷ []
names_of set.Optgroup = codes "optgroup" ∷ []
names_of set.Option = codes "option" ∷ []
names_of set.P = codes "p" ∷ []
names_of set.Plaintext = codes "plaintext" ∷ []
names_of set.Ruby = codes "ruby" ∷ []
names_of set.Script = codes "script" ∷ []
names_of set.Rtc = codes "rtc" ∷ []
names_of set.Select = codes "select" ∷ []
names_of set.Svg = codes "svg" ∷ []
names_of set.Table = codes "table" ∷ []
names_of set.Template = codes "template" ∷ []
names_of set.Textarea = codes "textarea" ∷ []
names_of set.Title = codes "title" ∷ []
names_of set.Tr = codes "tr" ∷ []
names_of set.Xmp = codes "xmp" ∷ []
-- the Standard's sets, where they are not html5ever's
names_of set.StandardDefaultScope = codes "applet" ∷ codes "caption" ∷ codes "html" ∷ codes "table" ∷ codes "td" ∷
    codes "th" ∷ codes "marquee" ∷ codes "object" ∷ codes "select" ∷ codes "template" ∷ []
names_of set.StandardListItemScope = codes "applet" ∷ codes "caption" ∷ codes "html" ∷ codes "table" ∷ codes "td" ∷
    codes "th" ∷ codes "marquee" ∷ codes "object" ∷ codes "select" ∷ codes "template" ∷ codes "ol" ∷ codes "ul" ∷ []
names_of set.StandardButtonScope = codes "applet" ∷ codes "caption" ∷ codes "html" ∷ codes "table" ∷ codes "td" ∷
    codes "th" ∷ codes "marquee" ∷ codes "object" ∷ codes "select" ∷ codes "template" ∷ codes "button" ∷ []
names_of set.StandardSpecialTag = codes "address" ∷ codes "applet" ∷ codes "area" ∷ codes "article" ∷ codes "aside" ∷
    codes "base" ∷ codes "basefont" ∷ codes "bgsound" ∷ codes "blockquote" ∷ codes "body" ∷ codes "br" ∷
    codes "button" ∷ codes "caption" ∷ codes "center" ∷ codes "col" ∷ codes "colgroup" ∷ codes "dd" ∷
    codes "details" ∷ codes "dir" ∷ codes "div" ∷ codes "dl" ∷ codes "dt" ∷ codes "embed" ∷ codes "fieldset" ∷
    codes "figcaption" ∷ codes "figure" ∷ codes "footer" ∷ codes "form" ∷ codes "frame" ∷ codes "frameset" ∷
    codes "h1" ∷ codes "h2" ∷ codes "h3" ∷ codes "h4" ∷ codes "h5" ∷ codes "h6" ∷ codes "head" ∷ codes "header" ∷
    codes "hgroup" ∷ codes "hr" ∷ codes "html" ∷ codes "iframe" ∷ codes "img" ∷ codes "input" ∷ codes "keygen" ∷
    codes "li" ∷ codes "link" ∷ codes "listing" ∷ codes "main" ∷ codes "marquee" ∷ codes "menu" ∷ codes "meta" ∷
    codes "nav" ∷ codes "noembed" ∷ codes "noframes" ∷ codes "noscript" ∷ codes "object" ∷ codes "ol" ∷ codes "p" ∷
    codes "param" ∷ codes "plaintext" ∷ codes "pre" ∷ codes "script" ∷ codes "search" ∷ codes "section" ∷ codes "select" ∷
    codes "source" ∷ codes "style" ∷ codes "summary" ∷ codes "table" ∷ codes "tbody" ∷ codes "td" ∷
    codes "template" ∷ codes "textarea" ∷ codes "tfoot" ∷ codes "th" ∷ codes "thead" ∷ codes "title" ∷ codes "tr" ∷
    codes "track" ∷ codes "ul" ∷ codes "wbr" ∷ codes "xmp" ∷ []
names_of set.StandardBodyEnd = codes "dd" ∷ codes "dt" ∷ codes "li" ∷ codes "optgroup" ∷ codes "option" ∷ codes "p" ∷
    codes "rb" ∷ codes "rp" ∷ codes "rt" ∷ codes "rtc" ∷ codes "tbody" ∷ codes "td" ∷ codes "tfoot" ∷ codes "th" ∷ codes "thead" ∷ codes "tr" ∷
    codes "body" ∷ codes "html" ∷ []

-- the names of MathML elements in a set
unfoldable pub mathml_names_of : TagSet → List (List ℕ)
mathml_names_of set.DefaultScope = codes "mi" ∷ codes "mo" ∷ codes "mn" ∷ codes "ms" ∷ codes "mtext" ∷ []
mathml_names_of set.ListItemScope = codes "mi" ∷ codes "mo" ∷ codes "mn" ∷ codes "ms" ∷ codes "mtext" ∷ []
mathml_names_of set.ButtonScope = codes "mi" ∷ codes "mo" ∷ codes "mn" ∷ codes "ms" ∷ codes "mtext" ∷ []
mathml_names_of set.MathmlTextIntegrationPoint = codes "mi" ∷ codes "mo" ∷ codes "mn" ∷ codes "ms" ∷ codes "mtext" ∷ []
mathml_names_of set.AnnotationXml = codes "annotation-xml" ∷ []
mathml_names_of set.StandardDefaultScope = codes "mi" ∷ codes "mo" ∷ codes "mn" ∷ codes "ms" ∷ codes "mtext" ∷ codes "annotation-xml" ∷ []
mathml_names_of set.StandardListItemScope = codes "mi" ∷ codes "mo" ∷ codes "mn" ∷ codes "ms" ∷ codes "mtext" ∷ codes "annotation-xml" ∷ []
mathml_names_of set.StandardButtonScope = codes "mi" ∷ codes "mo" ∷ codes "mn" ∷ codes "ms" ∷ codes "mtext" ∷ codes "annotation-xml" ∷ []
mathml_names_of set.StandardSpecialTag = codes "mi" ∷ codes "mo" ∷ codes "mn" ∷ codes "ms" ∷ codes "mtext" ∷ codes "annotation-xml" ∷ []
mathml_names_of _ = []

-- the names of SVG elements in a set
unfoldable pub svg_names_of : TagSet → List (List ℕ)
svg_names_of set.DefaultScope = codes "foreignObject" ∷ codes "desc" ∷ codes "title" ∷ []
svg_names_of set.ListItemScope = codes "foreignObject" ∷ codes "desc" ∷ codes "title" ∷ []
svg_names_of set.ButtonScope = codes "foreignObject" ∷ codes "desc" ∷ codes "title" ∷ []
svg_names_of set.SvgHtmlIntegrationPoint = codes "foreignObject" ∷ codes "desc" ∷ codes "title" ∷ []
svg_names_of set.StandardDefaultScope = codes "foreignObject" ∷ codes "desc" ∷ codes "title" ∷ []
svg_names_of set.StandardListItemScope = codes "foreignObject" ∷ codes "desc" ∷ codes "title" ∷ []
svg_names_of set.StandardButtonScope = codes "foreignObject" ∷ codes "desc" ∷ codes "title" ∷ []
svg_names_of set.StandardSpecialTag = codes "foreignObject" ∷ codes "desc" ∷ codes "title" ∷ []
svg_names_of _ = []

-- the names in a set, by their namespace
abbrev pub names_in : Namespace → TagSet → List (List ℕ)
names_in Html set = names_of set
names_in MathMl set = mathml_names_of set
names_in Svg set = svg_names_of set
names_in (Other uri) set = []

-- one thing by html5ever's rules, another by the Standard's
abbrev pub by_rules : {A : Type 0} → Rules → A → A → A
by_rules Html5ever ours theirs = ours
by_rules Standard ours theirs = theirs

-- the set that is asked for one
abbrev pub set_by : Rules → TagSet → TagSet
set_by rules set.DefaultScope = by_rules rules set.DefaultScope set.StandardDefaultScope
set_by rules set.ListItemScope = by_rules rules set.ListItemScope set.StandardListItemScope
set_by rules set.ButtonScope = by_rules rules set.ButtonScope set.StandardButtonScope
set_by rules set.SpecialTag = by_rules rules set.SpecialTag set.StandardSpecialTag
set_by rules set.BodyEnd = by_rules rules set.BodyEnd set.StandardBodyEnd
set_by rules set.TableTbodyTfoot = by_rules rules set.TableTbodyTfoot set.TbodyTfootThead
set_by rules set = set
