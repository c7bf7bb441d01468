use Rattle.std.proofs.Common.{◌∙◌, None, refl, sym, ap}
use Rattle.std.proofs.lemmas.Result.{err_from_is_err_and}
use Rattle.html_decoded_pages.specs.Changing.{or_first}
use Rattle.html_decoded_pages.proofs.Going.{meets-none, meets-one, seeks-failed, seeks-first, seeks-on}
use Rattle.html_decoded_pages.proofs.pauses.next_encoding.Goals as goal
use Rattle.html_decoded_pages.proofs.pauses.next_encoding.Goals.{in-Script, in-EncodingIndicator+in-None}

pub loop-label-init : goal.loop-label-init
loop-label-init g c = seeks-first g.S.TokenSink c.args.tokenizer.now c.args.input.now.characters c.requires.free

pub returns-in_err-feed-clause-err : goal.returns-in_err-feed-clause-err
returns-in_err-feed-clause-err g c =
    let p = err_from_is_err_and c.from_residual.result c.from_residual.ensures.1 in
    rw (p.1, p.2) (seeks-failed g.S.TokenSink c.args.tokenizer.now c.loop-label.tokenizer c.feed.new.self c.args.input.now
    c.loop-label.input c.feed.new.input _ c.loop-label.invariant c.in_err-feed.ensures.gives)

pub returns-in-Done-clause-ok : goal.returns-in-Done-clause-ok
returns-in-Done-clause-ok g c =
    let gives = rw c.in-Done.is at c.in_ok-feed.ensures.gives in
    meets-none g.S.TokenSink c.args.tokenizer.now c.loop-label.tokenizer c.feed.new.self c.args.input.now c.loop-label.input
    c.feed.new.input c.loop-label.invariant gives c.in_ok-feed.ensures.ready

pub returns-in-Some-clause-ok : goal.returns-in-Some-clause-ok
returns-in-Some-clause-ok g c =
    let gives = rw c.in-EncodingIndicator.is at c.in_ok-feed.ensures.gives in
    meets-one g.S.TokenSink c.args.tokenizer.now c.loop-label.tokenizer c.feed.new.self c.args.input.now c.loop-label.input
    c.feed.new.input c.in-EncodingIndicator.label c.in-Some.encoding c.loop-label.invariant gives c.in_ok-feed.ensures.ready
    (sym c.encoding_named.ensures ∙ c.in-Some.is)

pub loop-label-preserved-after-branch-2 : goal.loop-label-preserved-after-branch-2
loop-label-preserved-after-branch-2 g c =
    elim c.match-branch-2.branch [
      | in-Script w ↦ seeks-on g.S.TokenSink c.args.tokenizer.now c.loop-label.tokenizer c.feed.new.self c.args.input.now
          c.loop-label.input c.feed.new.input c.in_ok-feed.field-0 c.loop-label.invariant c.in_ok-feed.ensures.gives
          c.in_ok-feed.ensures.ready (rw w.in-Script.is refl)
      | in-EncodingIndicator+in-None w ↦ seeks-on g.S.TokenSink c.args.tokenizer.now c.loop-label.tokenizer c.feed.new.self
          c.args.input.now c.loop-label.input c.feed.new.input c.in_ok-feed.field-0 c.loop-label.invariant
          c.in_ok-feed.ensures.gives c.in_ok-feed.ensures.ready
          (rw w.in-EncodingIndicator.is (ap (λ o. or_first o None) (sym w.encoding_named.ensures ∙ w.in-None.is)))
    ]

pub loop-label-preserved : goal.loop-label-preserved
loop-label-preserved g c =
    elim c.match-branch-2.branch [
      | in-Script w ↦ seeks-on g.S.TokenSink c.args.tokenizer.now c.loop-label.tokenizer c.feed.new.self c.args.input.now
          c.loop-label.input c.feed.new.input c.in_ok-feed.field-0 c.loop-label.invariant c.in_ok-feed.ensures.gives
          c.in_ok-feed.ensures.ready (rw w.in-Script.is refl)
      | in-EncodingIndicator+in-None w ↦ seeks-on g.S.TokenSink c.args.tokenizer.now c.loop-label.tokenizer c.feed.new.self
          c.args.input.now c.loop-label.input c.feed.new.input c.in_ok-feed.field-0 c.loop-label.invariant
          c.in_ok-feed.ensures.gives c.in_ok-feed.ensures.ready
          (rw w.in-EncodingIndicator.is (ap (λ o. or_first o None) (sym w.encoding_named.ensures ∙ w.in-None.is)))
    ]
