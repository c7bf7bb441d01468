use Rattle.std.proofs.Common.{◌≡◌, ◌∙◌, ◌+◌, ◌≤◌, ◌<◌, ◌^◌, ◌++◌, ℕ, [], take, length, refl, ap, arith, inl, inr, length-append}
use Rattle.std.proofs.Common.{subst, vec_len}
use Rattle.std.specs.String.{string_bytes}
use Rattle.std.proofs.lemmas.Grind.{common_steps}
use Rattle.std.proofs.lemmas.List.{length-take}
use Rattle.std.proofs.lemmas.Result.{err_from_is_err_and}
use Rattle.devices.specs.Devices.{TellsBytes}
use Rattle.html_normal.specs.Parsing.{MayRefuse}
use Rattle.html_normal.proofs.Decoding.{IsDecoded, IsDecoded-more, IsDecoded-none, ReadsOn-alone, ReadsOn-more, ReadsOn-none}
use Rattle.html_normal.proofs.Decoding.{begun, cut-shown, empty-is, fault-shown, parse-fault, read-all, some-is, too-long}
use Rattle.html_normal.proofs.Decoding.{too-many}
use Rattle.html_normal.proofs.document.read_into.Goals as goal

pub loop-count-init : goal.loop-count-init
loop-count-init g c =
    record {
      decoded = (
        [],
        (
          IsDecoded-none (g.R.Source.left c.args.reader.now) c.new-held.result.items
              c.new-held.ensures.items,
          ReadsOn-none g.Sink.TreeSink c.args.parser.now.tokenizer,
        ),
      );
      rest = c.requires.rest;
      small = omega (arith, ap length c.new-held.ensures.items);
      counted = refl;
      room = refl;
      same_references = refl;
    }

pub returns-in_default-clause-err : goal.returns-in_default-clause-err
returns-in_default-clause-err g c whole left told rest =
    let so_far = c.loop-count.invariant.decoded in
    inl (begun _ _ _ so_far.0 c.loop-count.held.items c.loop-count.taken so_far.1.0 c.in_default.ensures.kept whole left told rest)

pub returns-then-len-taken-clause-err : goal.returns-then-len-taken-clause-err
returns-then-len-taken-clause-err g c whole left told rest =
    let so_far = c.loop-count.invariant.decoded in
    let piece = take c.in-Ok.count c.read_some.new.buffer in
    let bytes = c.extend_from_slice.new.self.items in
    let is : bytes ≡ c.loop-count.held.items ++ piece = grind (arith, common_steps) in
    let long : 2 ^ 64 ≤ c.loop-count.taken + length bytes = omega (arith, c.len.ensures, c.if-len-taken.true) in
    inr (too-long _ _ _ so_far.0 c.loop-count.held.items piece c.loop-count.taken so_far.1.0 c.in-Ok.ensures.moved
    bytes is long whole left told rest)

pub returns-then-len-taken-clause-counted : goal.returns-then-len-taken-clause-counted
returns-then-len-taken-clause-counted g c =
    let so_far = c.loop-count.invariant.decoded in
    let piece = take c.in-Ok.count c.read_some.new.buffer in
    let bytes = c.extend_from_slice.new.self.items in
    let is : bytes ≡ c.loop-count.held.items ++ piece = grind (arith, common_steps) in
    let long : 2 ^ 64 ≤ c.loop-count.taken + length bytes = omega (arith, c.len.ensures, c.if-len-taken.true) in
    let left = g.R.Source.left c.loop-count.reader in
    too-many _ _ _ so_far.0 c.loop-count.held.items piece c.loop-count.taken so_far.1.0 c.in-Ok.ensures.moved bytes is long _ _
    (subst (TellsBytes left) c.loop-count.invariant.counted c.in-Ok.ensures.tells)
    (c.in-Ok.ensures.counted ∙ c.loop-count.invariant.counted)

pub returns-in_err-text-clause-err : goal.returns-in_err-text-clause-err
returns-in_err-text-clause-err g c =
    let p = err_from_is_err_and c.from_residual-in_err-text.result c.from_residual-in_err-text.ensures.1 in
    let so_far = c.loop-count.invariant.decoded in
    let piece = take c.in-Ok.count c.read_some.new.buffer in
    let bytes = c.extend_from_slice.new.self.items in
    let is : bytes ≡ c.loop-count.held.items ++ piece = grind (arith, common_steps) in
    let room = c.loop-count.invariant.room in
    let short : length piece ≤ 32768 = omega (arith, length-take c.in-Ok.count c.read_some.new.buffer, c.in-Ok.ensures.within) in
    rw (p.1, p.2)
    (fault-shown _ _ _ so_far.0 c.loop-count.held.items piece c.loop-count.taken so_far.1.0 c.in-Ok.ensures.moved
    (MayRefuse g.Sink.TreeSink c.args.parser.now.tokenizer) _ bytes is short c.in_err-text.ensures.err)

pub loop-count-preserved : goal.loop-count-preserved
loop-count-preserved g c =
    let so_far = c.loop-count.invariant.decoded in
    let piece = take c.in-Ok.count c.read_some.new.buffer in
    let bytes = c.extend_from_slice.new.self.items in
    let is : bytes ≡ c.loop-count.held.items ++ piece = grind (arith, common_steps) in
    let more = string_bytes c.in_ok-text.text in
    let cut = c.in_ok-text.cut.items in
    let split = c.in_ok-text.ensures.ok in
    let len : length more ≡ c.len-in-loop-count.result = first_of (
      omega (arith, c.len-in-loop-count.ensures),
      grind (arith, common_steps),
    ) in
    let gives = rw c.loop-count.invariant.rest.free at c.in_ok-process.ensures.gives in
    let old = g.R.Source.left c.args.reader.now in
    let new = g.R.Source.left c.read_some.new.self in
    let room = c.loop-count.invariant.room in
    record {
      decoded = (
        so_far.0 ++ more,
        (
          subst (λ (n : ℕ). IsDecoded old new (so_far.0 ++ more) cut (c.loop-count.taken + n)) len
              (IsDecoded-more _ _ _ so_far.0 c.loop-count.held.items piece c.loop-count.taken so_far.1.0
              c.in-Ok.ensures.moved bytes more cut is split),
          ReadsOn-more g.Sink.TreeSink _ c.loop-count.parser.tokenizer c.process.new.self.tokenizer so_far.0 more so_far.1.0.text so_far.1.1
              (ReadsOn-alone g.Sink.TreeSink c.loop-count.parser.tokenizer c.process.new.self.tokenizer
              c.loop-count.parser.input_buffer.characters _ c.loop-count.invariant.rest.empty gives.0),
        ),
      );
      rest = record { empty = gives.1; free = gives.2; ready = c.in_ok-process.ensures.ready };
      small = omega (arith, len, c.len.ensures, c.if-len-taken.false, ap length split.parts, length-append more cut);
      counted = c.in-Ok.ensures.counted ∙ c.loop-count.invariant.counted;
      room = omega (arith, room);
      same_references = c.in-Ok.ensures.same_references ∙ c.loop-count.invariant.same_references;
    }

pub returns-in_err-process-clause-err : goal.returns-in_err-process-clause-err
returns-in_err-process-clause-err g c =
    let p = err_from_is_err_and c.from_residual-in_err-process.result c.from_residual-in_err-process.ensures.1 in
    let so_far = c.loop-count.invariant.decoded in
    let gives = rw c.loop-count.invariant.rest.free at c.in_err-process.ensures.gives in
    rw (p.1, p.2) (parse-fault g.Sink.TreeSink _ _ _ c.args.parser.now.tokenizer c.loop-count.parser.tokenizer _ so_far.1.1 gives.1)

pub returns-clause-err : goal.returns-clause-err
returns-clause-err g c whole left told rest =
    let so_far = c.loop-count.invariant.decoded in
    let zero = c.if-count-eq0.true in
    let room = c.loop-count.invariant.room in
    let some : 0 < length c.loop-count.buffer = omega arith in
    let moved = rw zero at c.in-Ok.ensures.moved in
    let len : vec_len c.loop-count.held ≡ length c.loop-count.held.items = omega arith in
    let held = some-is c.is_empty.result (vec_len c.loop-count.held) c.loop-count.held.items len c.is_empty.ensures c.if-is_empty.false in
    cut-shown _ _ _ so_far.0 c.loop-count.held.items c.loop-count.taken so_far.1.0 moved
    (c.in-Ok.ensures.end zero some) held whole left told rest

pub returns-then-is_empty-clause-ok : goal.returns-then-is_empty-clause-ok
returns-then-is_empty-clause-ok g c =
    let so_far = c.loop-count.invariant.decoded in
    let zero = c.if-count-eq0.true in
    let room = c.loop-count.invariant.room in
    let some : 0 < length c.loop-count.buffer = omega arith in
    let moved = rw zero at c.in-Ok.ensures.moved in
    let len : vec_len c.loop-count.held ≡ length c.loop-count.held.items = omega arith in
    let none = empty-is c.is_empty.result (vec_len c.loop-count.held) c.loop-count.held.items len c.is_empty.ensures c.if-is_empty.true in
    read-all g.Sink.TreeSink _ _ _ so_far.0 c.loop-count.held.items c.loop-count.taken c.args.parser.now.tokenizer
    c.loop-count.parser.tokenizer so_far.1.0 moved
    (c.in-Ok.ensures.end zero some) none so_far.1.1
