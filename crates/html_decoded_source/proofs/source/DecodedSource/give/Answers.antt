use Rattle.std.proofs.Common.{◌≡◌, ◌∙◌, ◌-◌, ap, take, drop, length, arith, sym, List, ℕ}
use Rattle.std.specs.String.{string_bytes}
use Rattle.html_encodings.proofs.Readings.{rest_of}
use Rattle.html_decoded_source.specs.Sources.{Decoding}
use Rattle.html_decoded_source.proofs.Left.{given-front}
use Rattle.html_decoded_source.proofs.source.DecodedSource.give.Goals as goal

pub returns-clause-moved : goal.returns-clause-moved
returns-clause-moved g c =
    let own = c.self.inside in
    let text = string_bytes own.text in
    let lent : List ℕ = c.as_bytes.result.now in
    let waits : c.args.self.now.waiting ≡ drop own.given text = sym (ap (λ (d : Decoding _). d.waiting) c.self.view_is) in
    let slice : take (length lent - own.given) (drop own.given lent) ≡ c.args.self.now.waiting =
    rest_of own.given lent ∙ (ap (λ bytes. drop own.given bytes) c.as_bytes.ensures.value ∙ sym waits) in
    let count = rw slice at c.min-count.ensures in
    given-front text c.args.buffer.now c.args.self.now.waiting c.copy_from_slice.new.self own.given c.min-count.result
    waits (omega arith) (rw slice at c.copy_from_slice.ensures.after)
