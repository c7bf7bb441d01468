-- Worked rows: the body, and what follows it.
use Rattle.std.specs.Prelude.{[], ◌∷◌, ◌++◌, codes}
use Rattle.html_rules_rows.specs.RowForms.{Rows, AreRead, row, body_row, body_row_of}

abbrev pub body_rows : Rows
body_rows =
    -- the "after after body" insertion mode
    -- <html>
    body_row "</html><html>" ""
    -- comment
    ∷ row "</html><!" "<html><head></head><body></body></html><!---->"
    -- else
    ∷ body_row "</HtMl><" "&lt;"
    -- end of input; "after body", </html>; "in body", </html>
    ∷ body_row "</html>" ""
    -- space
    ∷ body_row "</html> " " "
    -- the "after body" insertion mode
    -- <html>
    ∷ body_row "</body><html>" ""
    -- comment
    ∷ row "</body><!" "<html><head></head><body></body><!----></html>"
    -- else
    ∷ body_row "</body><" "&lt;"
    -- end of input; "after head", </body html br>; "before head", </head body html br>; "before html", </head body html br>; "in body",
    -- </body>; "in head", </body html br>
    ∷ body_row "</body>" ""
    -- space
    ∷ body_row "</body> " " "
    -- the "in body" insertion mode
    -- </a .. u>; adoption no entry; generic end special before it
    ∷ body_row "a</I>" "a"
    -- </address .. ul>
    ∷ body_row "<PRE></pre>" "<pre></pre>"
    -- </address .. ul> err
    ∷ body_row "></ul>" "&gt;"
    -- </applet marquee object>
    ∷ body_row "<ObjEcT></object>" "<object></object>"
    -- </applet marquee object> err
    ∷ body_row "></applet>" "&gt;"
    -- </body> err
    ∷ body_row "<select></body>" "<select></select>"
    -- </br>
    ∷ body_row "</br>" "<br>"
    -- </dd dt>
    ∷ body_row "<dt></dt>" "<dt></dt>"
    -- </dd dt> err
    ∷ body_row "></dt>" "&gt;"
    -- </form>
    ∷ body_row "<form></form>" "<form></form>"
    -- </form> no pointer
    ∷ body_row ";</form>" ";"
    -- </form> not current
    ∷ body_row "<form><v></form>" "<form><v></v></form>"
    -- </form> not in scope
    ∷ body_row "<form><table></form>" "<form><table></table></form>"
    -- </form> template
    ∷ row "<template><form></form>" "<html><head><template><form></form></template></head><body></body></html>"
    -- </form> template, not current
    ∷ row "<template><form><v></form>" "<html><head><template><form><v></v></form></template></head><body></body></html>"
    -- </form> template, not in scope
    ∷ row "<template><t></form>" "<html><head><template><t></t></template></head><body></body></html>"
    -- </h1>
    ∷ body_row "<h1></h1>" "<h1></h1>"
    -- </h1> another heading
    ∷ body_row "<h6></h4>" "<h6></h6>"
    -- </h1> err
    ∷ body_row_of (0 ∷ codes "</h3>") ([])
    -- </html> err
    ∷ row "<template><u></html>" "<html><head><template><u></u></template></head><body></body></html>"
    -- </li>
    ∷ body_row "<li></li>" "<li></li>"
    -- </li> err
    ∷ body_row "></li>" "&gt;"
    -- </option>
    ∷ body_row "a</option>" "a"
    -- </option> hook
    ∷ body_row "<option></option>" "<option></option>"
    -- </p>; </p> new p
    ∷ body_row "<</p>" "&lt;<p></p>"
    -- </template>; "in head", </template> none open
    ∷ body_row "></template>" "&gt;"
    -- <a>
    ∷ body_row "<a>" "<a></a>"
    -- <a> leaves the list; <a> leaves the stack; adoption F not in scope
    ∷ body_row "<a><table><a>" "<a><a></a><table></table></a>"
    -- <a> misnested
    ∷ body_row "<a><a>" "<a></a><a></a>"
    -- <address .. ul>
    ∷ body_row "<p>" "<p></p>"
    -- <applet marquee object>
    ∷ body_row "<object>" "<object></object>"
    -- <area br embed img keygen wbr>
    ∷ body_row "<br>" "<br>"
    -- <b .. u>; check err
    ∷ body_row "<b>" "<b></b>"
    -- <base .. title>; reset InBody
    ∷ body_row "a<TemPLATe>" "a<template></template>"
    -- <body>; <body> attributes
    ∷ body_row "><body>" "&gt;"
    -- <button>
    ∷ body_row "<button>" "<button></button>"
    -- <button> nested
    ∷ body_row "<button><button>" "<button></button><button></button>"
    -- <caption .. tr>
    ∷ body_row "<tr>" ""
    -- <dd dt>
    ∷ body_row "<dd>" "<dd></dd>"
    -- <dd dt> closes
    ∷ body_row "<dd><dt>" "<dd></dd><dt></dt>"
    -- <form>; <form> pointer
    ∷ body_row "<form>" "<form></form>"
    -- <form> nested
    ∷ body_row "<form><form>" "<form></form>"
    -- <frameset>
    ∷ body_row "><frameset>" "&gt;"
    -- <frameset> taken
    ∷ row "<p><frameset>" "<html><head></head><frameset></frameset></html>"
    -- <h1>
    ∷ body_row "<h6>" "<h6></h6>"
    -- <h1> in a heading
    ∷ body_row "<h1><h2>" "<h1></h1><h2></h2>"
    -- <hr>
    ∷ body_row "<hr>" "<hr>"
    -- <hr> in option
    ∷ body_row "<select><optgroup><n><hr>" "<select><optgroup><n><hr></n></optgroup></select>"
    -- <hr> in select
    ∷ body_row "<select><hr>" "<select><hr></select>"
    -- <html>; <html> attributes
    ∷ body_row "a<html>" "a"
    -- <iframe>
    ∷ body_row "<iframe>" "<iframe></iframe>"
    -- <image>
    ∷ body_row "<image>" "<img>"
    -- <input>
    ∷ body_row "<input>" "<input>"
    -- <input> hidden
    ∷ body_row "<input type=\"HIDDEN\">" "<input type=\"HIDDEN\">"
    -- <input> in select
    ∷ body_row "<select><input>" "<select></select><input>"
    -- <li>
    ∷ body_row "<li>" "<li></li>"
    -- <li> closes
    ∷ body_row "<li><li>" "<li></li><li></li>"
    -- <math>
    ∷ body_row "<math>" "<math></math>"
    -- <nobr>
    ∷ body_row "<nobr>" "<nobr></nobr>"
    -- <nobr> nested
    ∷ body_row "<nobr><nobr>" "<nobr></nobr><nobr></nobr>"
    -- <noembed>
    ∷ body_row "<noembed>" "<noembed></noembed>"
    -- <noscript> scripting
    ∷ body_row "><noscript>" "&gt;<noscript></noscript>"
    -- <optgroup>
    ∷ body_row "<optgroup>" "<optgroup></optgroup>"
    -- <optgroup> current option
    ∷ body_row "<option><optgroup>" "<option></option><optgroup></optgroup>"
    -- <optgroup> in option or optgroup
    ∷ body_row "<select><option><h><optgroup>" "<select><option><h><optgroup></optgroup></h></option></select>"
    -- <optgroup> in select
    ∷ body_row "<select><optgroup>" "<select><optgroup></optgroup></select>"
    -- <option>
    ∷ body_row "<option>" "<option></option>"
    -- <option> current option
    ∷ body_row "<option><option>" "<option></option><option></option>"
    -- <option> in option
    ∷ body_row "<select><option><l><option>" "<select><option><l><option></option></l></option></select>"
    -- <option> in select
    ∷ body_row "<select><option>" "<select><option></option></select>"
    -- <param source track>
    ∷ body_row "<param>" "<param>"
    -- <plaintext>
    ∷ body_row "<plaintext>" "<plaintext></plaintext>"
    -- <pre listing>
    ∷ body_row "<pre>" "<pre></pre>"
    -- <rb rtc>; <rb rtc> err
    ∷ body_row "<rtc>" "<rtc></rtc>"
    -- <rb rtc> in ruby
    ∷ body_row "<ruby><rb>" "<ruby><rb></rb></ruby>"
    -- <rp rt>; <rp rt> err
    ∷ body_row "<rt>" "<rt></rt>"
    -- <rp rt> in ruby
    ∷ body_row "<ruby><rp>" "<ruby><rp></rp></ruby>"
    -- <select>
    ∷ body_row "<select>" "<select></select>"
    -- <select> nested
    ∷ body_row "<select><select>" "<select></select>"
    -- <svg>
    ∷ body_row "<svg>" "<svg></svg>"
    -- <table>; <table> Quirks; "in table", end of input
    ∷ body_row "<table>" "<table></table>"
    -- <textarea>
    ∷ body_row "<textarea>" "<textarea></textarea>"
    -- <xmp>
    ∷ body_row "<xmp>" "<xmp></xmp>"
    -- NUL
    ∷ body_row_of (0 ∷ []) ([])
    -- comment
    ∷ body_row "/<!" "/<!---->"
    -- end
    ∷ body_row "b</m>" "b"
    -- end of input with template modes; "in template", start
    ∷ row "<template><P>" "<html><head><template><p></p></template></head><body></body></html>"
    -- start
    ∷ body_row "<m>" "<m></m>"
    -- text
    ∷ body_row "a" "a"
    -- the "text" insertion mode
    -- </script>
    ∷ row "<script></script>" "<html><head><script></script></head><body></body></html>"
    -- end
    ∷ body_row "<xmp></xmp>" "<xmp></xmp>"
    -- text
    ∷ row "<noframes>>" "<html><head><noframes>></noframes></head><body></body></html>"
    -- associate_with_form
    ∷ body_row "<form><textarea>" "<form><textarea></textarea></form>"
    -- close err
    ∷ row "<template><e></template>" "<html><head><template><e></e></template></head><body></body></html>"
    -- close p
    ∷ body_row "<p><p>" "<p></p><p></p>"
    -- generic end found
    ∷ body_row "<rb></rb>" "<rb></rb>"
    -- generic end not current
    ∷ body_row "<option><s></option>" "<option><s></s></option>"
    -- swallowed LF
    ∷ body_row_of (codes "<pre>" ++ 10 ∷ []) (codes "<pre></pre>")
    ∷ []

abbrev pub AreBodyRowsRead : Type 0
AreBodyRowsRead = AreRead body_rows
