-- The text of an element as it is rendered, `innerText` (HTML Standard, section 3.2.7, "get the text steps"): what items come to, with white
-- space by CSS Text, sections 4.1.1 and 4.1.2.
use Rattle.std.specs.Prelude.{◌≡◌, ℕ, ◌==◌, ◌||◌, ◌&&◌, Bool, true, false, cond, max, replicate, length, List, [], ◌∷◌, ◌++◌}
use Rattle.markup.specs.Forest.{Forest}
use Rattle.markup.specs.Trees.{inner_of}
use Rattle.html_nodes.specs.Below.{below}
use Rattle.html_nodes.specs.Looks.{texts_of}
use Rattle.html_inner_text.specs.Items.{Item, Text, At, items}
use Rattle.html_inner_text.specs.Styles.{Inherits, inside, kind_of}
use Rattle.html_inner_text.specs.declared.kinds.Kind.{Kind}
use Rattle.html_inner_text.specs.declared.kinds.Kind.TheVariants.{NotRendered}
use Rattle.html_inner_text.specs.declared.styles.Style.{Style}
use Rattle.html_inner_text.specs.declared.writer.Edge.{Edge}
use Rattle.html_inner_text.specs.declared.writer.Edge.TheVariants.{Nothing, LineEnd, Required, Atomic, BoxStart, BoxEnd}
use Rattle.html_inner_text.specs.declared.writer.White.{White}
use Rattle.html_inner_text.specs.declared.writer.White.TheVariants.{AtLineStart, AfterText, AfterSpace}
use Rattle.html_inner_text.specs.declared.writer.Writer.{Writer}

-- the text with the line feeds of the required line breaks, of which there are none at the start
abbrev pub broken : Writer → List ℕ
broken w = cond (length w.text == 0) w.text (w.text ++ replicate w.required 10)

-- a collapsible space is written once something follows it in its line
abbrev pub waiting_space : White → List ℕ
waiting_space AtLineStart = []
waiting_space AfterText = []
waiting_space AfterSpace = 32 ∷ []

abbrev pub separated : Writer → Writer
separated w = record w { text = broken w ++ waiting_space w.white; required = 0 }

abbrev pub shown : Writer → White → ℕ → Writer
shown w white c = record { text = (separated w).text ++ c ∷ []; required = 0; white = white }

abbrev pub is_white : ℕ → Bool
is_white c = c == 32 || (c == 9 || (c == 10 || c == 13))

abbrev pub after_white : White → White
after_white AtLineStart = AtLineStart
after_white AfterText = AfterSpace
after_white AfterSpace = AfterSpace

-- collapsible white space is one space; in preserved text a line feed ends the line
abbrev pub collapsed : Writer → ℕ → Writer
collapsed w c = cond (is_white c) (record w { white = after_white w.white }) (shown w AfterText c)

abbrev pub after_preserved : ℕ → White
after_preserved c = cond (c == 10) AtLineStart AfterText

abbrev pub pushed : Bool → Writer → ℕ → Writer
pushed preserves w c = cond preserves (shown w (after_preserved c) c) (collapsed w c)

abbrev pub written : Bool → Writer → List ℕ → Writer
written preserves w [] = w
written preserves w (c ∷ cs) = written preserves (pushed preserves w c) cs

-- a required line break, or with a count of 0 only the edge of a box: spaces there are removed
abbrev pub required : Writer → ℕ → Writer
required w count = record w { required = max w.required count; white = AtLineStart }

-- a box in the line: a space before it stays, and so does one after it
abbrev pub boxed : Writer → White → Writer
boxed w AfterSpace = record (separated w) { white = AfterText }
boxed w _ = record w { white = AfterText }

abbrev pub edged : Writer → Edge → Writer
edged w Nothing = w
edged w (LineEnd c) = record { text = broken w ++ c ∷ []; required = 0; white = AtLineStart }
edged w (Required count) = required w count
edged w Atomic = boxed w w.white
edged w BoxStart = required (boxed w w.white) 0
edged w BoxEnd = boxed (required w 0) AtLineStart

abbrev pub after : Writer → Item → Writer
after w (Text preserves characters) = written preserves w characters
after w (At edge) = edged w edge

abbrev pub run : Writer → List Item → Writer
run w [] = w
run w (item ∷ items) = run (after w item) items

abbrev pub empty : Writer
empty = record { text = []; required = 0; white = AtLineStart }

abbrev pub is_rendered : Kind → Bool
is_rendered NotRendered = false
is_rendered _ = true

abbrev pub rendered_text : Forest → Style → ℕ → List ℕ
rendered_text f s n = (run empty (items f (inside f s n) (inner_of f n))).text

-- the text of a node that inherits this style; of one that is not rendered, all text in it
abbrev pub inner_text : Forest → Style → ℕ → List ℕ
inner_text f s n =
    cond (s.rendered && is_rendered (kind_of f n)) (rendered_text f s n) (texts_of f (n ∷ below f n))

pub record IsInnerText (f : Forest) (n : ℕ) (text : List ℕ) : Type 0 where
  pub style : Style
  pub inherits : Inherits f n style
  pub same : text ≡ inner_text f style n
