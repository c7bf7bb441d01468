use Rattle.std.proofs.Common.{◌≡◌, ◌∙◌, Bool, true, false, not, refl, sym, rules}
use Rattle.std.proofs.lemmas.Result.{err_from_is_err_and}
use denote.Enum.Bare.{same_true}
use Rattle.html_parser.proofs.Feeds.{fails-on}
use Rattle.html_encodings.specs.contracts.names.Encoding.{the_type}
use Rattle.html_decoded_pages.proofs.Reading.{goes-fault, settles-on, stays-in, stays-named}
use Rattle.html_decoded_pages.proofs.pauses.read_in.Goals as goal

not-false : (b : Bool) → false ≡ not b → b ≡ true
not-false true is = refl
not-false false is = absurd cc

pub returns-in_err-end-clause-err : goal.returns-in_err-end-clause-err
returns-in_err-end-clause-err g c =
    let p = err_from_is_err_and c.from_residual-in_err-end.result c.from_residual-in_err-end.ensures.1 in
    rw (p.1, p.2) (goes-fault g.S.TokenSink c.args.tokenizer.now c.next_encoding.new.tokenizer c.args.input.now.characters
    c.next_encoding.new.input.characters _ _ c.in_ok-named.ensures.ok.goes c.in_err-end.ensures.err)

pub returns-in_default-clause-ok : goal.returns-in_default-clause-ok
returns-in_default-clause-ok g c = λ begin before.
    let met = rw c.in_default.is at c.in_ok-named.ensures.ok in
    stays-in g.S.TokenSink begin c.args.tokenizer.now before c.next_encoding.new.tokenizer c.args.input.now.characters
    c.next_encoding.new.input.characters c.end.new.tokenizer.sink c.args.encoding met c.in_ok-end.ensures.ok

pub returns-then-ne-clause-ok : goal.returns-then-ne-clause-ok
returns-then-ne-clause-ok g c = λ begin before.
    let met = rw c.in-Some.is at c.in_ok-named.ensures.ok in
    settles-on g.S.TokenSink begin c.args.tokenizer.now before c.next_encoding.new.tokenizer c.args.input.now.characters
    c.next_encoding.new.input.characters c.in-Some.named c.args.encoding met ∙ sym c.changed_to-settled.ensures

pub returns-in_err-read_on-clause-err : goal.returns-in_err-read_on-clause-err
returns-in_err-read_on-clause-err g c =
    let p = err_from_is_err_and c.from_residual-in_err-read_on.result c.from_residual-in_err-read_on.ensures.1 in
    rw (p.1, p.2) (goes-fault g.S.TokenSink c.args.tokenizer.now c.next_encoding.new.tokenizer c.args.input.now.characters
    c.next_encoding.new.input.characters _ _ c.in_ok-named.ensures.ok.goes c.in_err-read_on.ensures.err)

pub returns-in_err-end-2-clause-err : goal.returns-in_err-end-2-clause-err
returns-in_err-end-2-clause-err g c =
    let p = err_from_is_err_and c.from_residual-in_err-end-2.result c.from_residual-in_err-end-2.ensures.1 in
    rw (p.1, p.2) (goes-fault g.S.TokenSink c.args.tokenizer.now c.next_encoding.new.tokenizer c.args.input.now.characters
    c.next_encoding.new.input.characters _ _ c.in_ok-named.ensures.ok.goes
    (fails-on g.S.TokenSink c.next_encoding.new.tokenizer c.read_on.new.tokenizer c.next_encoding.new.input.characters _
    c.in_ok-read_on.ensures.ok.reads c.in_err-end-2.ensures.err))

pub returns-clause-ok : goal.returns-clause-ok
returns-clause-ok g c = λ begin before.
    let met = rw c.in-Some.is at c.in_ok-named.ensures.ok in
    let same = same_true the_type (search rules) c.changed_to-settled.result c.args.encoding (not-false _ c.if-ne.ensures) in
    stays-named g.S.TokenSink begin c.args.tokenizer.now before c.next_encoding.new.tokenizer c.read_on.new.tokenizer
    c.args.input.now.characters c.next_encoding.new.input.characters c.end-2.new.tokenizer.sink c.in-Some.named c.args.encoding met
    c.in_ok-read_on.ensures.ok c.in_ok-end-2.ensures.ok (sym c.changed_to-settled.ensures ∙ same)
