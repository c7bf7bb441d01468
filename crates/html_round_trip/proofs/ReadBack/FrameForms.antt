-- Each part of a document's frame leads from one insertion mode to the next.
use Rattle.std.proofs.Common.{ℕ, false, List, None, codes}
use Rattle.markup.specs.Escape.{written_doctype}
use Rattle.markup.specs.Forest.{Forest}
use Rattle.html_plain.specs.declared.elements.PlainElement.TheVariants.{Html, Head, Body}
use Rattle.html_round_trip.specs.Slices.Forms.{doctype_token}
use Rattle.html_round_trip.proofs.Slices.SpelledForms.{doctype-spelled}
use Rattle.html_tokens.specs.Laws.{ReadsEscapes, in_data}
use Rattle.html_tokens.specs.Table.{Row}
use Rattle.html_tokens.specs.declared.replies.TokenSinkResult.TheVariants.{Continue}
use Rattle.html_round_trip.specs.ReadBack.Forms.{IsFrameRead}
use Rattle.html_round_trip.specs.ReadBack.States.{Around}
use Rattle.html_round_trip.proofs.ReadBack.Document.{doctype-takes, head-takes, html-ends, html-takes}
use Rattle.html_round_trip.proofs.ReadBack.Frame.{body-begins, body-ends, end-reads, head-ends, head-text, space-reads}
use Rattle.html_round_trip.proofs.ReadBack.Frame.{start-reads, title-reads, title-text}
use Rattle.html_round_trip.proofs.ReadBack.Runs.{reads-one}

pub frame-read : (rows : List Row) → ReadsEscapes rows → (o : Around) (f : Forest) (n m : ℕ) → IsFrameRead rows o f n m
frame-read rows reads o f n m = record {
  doctype = λ silent quirks. reads-one rows (in_data None) (in_data None) _ _ (written_doctype (codes "html"))
      (doctype_token (codes "html")) Continue (doctype-spelled rows None) (doctype-takes rows reads false o f silent quirks);
  html = λ last attrs plain silent. start-reads rows reads false o Html attrs plain last _ _ (html-takes rows reads false o f attrs silent);
  head = λ last attrs plain silent. start-reads rows reads false o Head attrs plain last _ _
      (head-takes rows reads false o f n attrs silent);
  space_in_head = λ head last text white good. head-text rows reads false o head n m last text white f good;
  title = λ sc head last attrs kids plain is good. title-reads rows reads sc o head n m attrs plain kids
      (title-text sc kids is) last f good;
  head_end = λ head last silent. end-reads rows reads false o Head last _ _ (head-ends rows reads false o head n m f silent);
  space_after_head = λ head last text white good. space-reads rows reads false o head n m last text white f good;
  body = λ head last attrs plain silent. start-reads rows reads false o Body attrs plain last _ _
      (body-begins rows reads false o head n m attrs f silent);
  body_end = λ head last ok silent. end-reads rows reads false o Body last _ _ (body-ends rows reads false o head n m m f ok silent);
  html_end = λ head last ok silent. end-reads rows reads false o Html last _ _ (html-ends rows reads false o head n m f ok silent);
}
