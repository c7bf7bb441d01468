-- Worked rows: the head.
use Rattle.std.specs.Prelude.{[], ◌∷◌, ◌++◌, codes}
use Rattle.html_rules_rows.specs.RowForms.{Rows, AreRead, row, row_of, body_row}

abbrev pub head_rows : Rows
head_rows =
    -- the "after head" insertion mode
    -- </template>
    row "<!></head></template>" "<!----><html><head></head><body></body></html>"
    -- <base .. title>
    ∷ row "<html><head></head></><noframes>" "<html><head><noframes></noframes></head><body></body></html>"
    -- <body>
    ∷ body_row "<body>" ""
    -- <frameset>; "in frameset", end of input err
    ∷ row "<frameset>" "<html><head></head><frameset></frameset></html>"
    -- <head>
    ∷ row "<!></head><head>" "<!----><html><head></head><body></body></html>"
    -- <html>
    ∷ body_row "<head></head><html>" ""
    -- comment
    ∷ row "</head><!" "<html><head></head><!----><body></body></html>"
    -- else; "before head", else; "before html", else; "in body", end of input; "in head", else; "initial", else; place end
    ∷ body_row "" ""
    -- end
    ∷ body_row "</head></p>" ""
    -- space
    ∷ row_of (codes "<html><head></head>" ++ 10 ∷ []) (codes "<html><head></head>" ++ 10 ∷ codes "<body></body></html>")
    -- the "in head" insertion mode
    -- </head>
    ∷ body_row "</head>" ""
    -- </template>; "in template", </template>
    ∷ row "<template></template>" "<html><head><template></template></head><body></body></html>"
    -- <base basefont bgsound link meta>
    ∷ row "<meta>" "<html><head><meta></head><body></body></html>"
    -- <head>
    ∷ body_row "<html><head><head>" ""
    -- <html>
    ∷ body_row "<head><html>" ""
    -- <noframes style>
    ∷ row "<noframes>" "<html><head><noframes></noframes></head><body></body></html>"
    -- <noscript> scripting
    ∷ row "<noscript>" "<html><head><noscript></noscript></head><body></body></html>"
    -- <script>; "text", end of input; "text", end of input in script
    ∷ row "<script>" "<html><head><script></script></head><body></body></html>"
    -- <template shadowrootmode>
    ∷ row "<template shadowrootmode=open>" "<html><head><template shadowrootmode=\"open\"></template></head><body></body></html>"
    -- <template>; "in template", end of input
    ∷ row "<TemPLATe>" "<html><head><template></template></head><body></body></html>"
    -- <title>
    ∷ row "<title>" "<html><head><title></title></head><body></body></html>"
    -- comment
    ∷ row "<meta><!" "<html><head><meta><!----></head><body></body></html>"
    -- end
    ∷ body_row "<head></p>" ""
    -- hint by charset
    ∷ row "<link charset>" "<html><head><link charset=\"\"></head><body></body></html>"
    -- hint by content; hint unquoted
    ∷ row "<meta http-equiv=\"Content-Type\"content=charset=b>"
    "<html><head><meta http-equiv=\"Content-Type\" content=\"charset=b\"></head><body></body></html>"
    -- http-equiv without hint
    ∷ row "<meta http-equiv=content-type>" "<html><head><meta http-equiv=\"content-type\"></head><body></body></html>"
    -- space
    ∷ row_of (codes "<script></script>" ++ 10 ∷ []) (codes "<html><head><script></script>" ++ 10 ∷ codes "</head><body></body></html>")
    -- hint nothing follows
    ∷ row "<meta http-equiv=content-type content=\"charset=\">"
    "<html><head><meta http-equiv=\"content-type\" content=\"charset=\"></head><body></body></html>"
    -- hint quoted
    ∷ row "<meta http-equiv=content-type content=charset=''>"
    "<html><head><meta http-equiv=\"content-type\" content=\"charset=''\"></head><body></body></html>"
    -- hint without the closing quote
    ∷ row "<link http-equiv=CONTENT-TYPE content=charset='>"
    "<html><head><link http-equiv=\"CONTENT-TYPE\" content=\"charset='\"></head><body></body></html>"
    -- self-closing err
    ∷ body_row "<e/>" "<e></e>"
    ∷ []

abbrev pub AreHeadRowsRead : Type 0
AreHeadRowsRead = AreRead head_rows
