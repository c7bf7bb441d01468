use Rattle.bench_tokenizer.proofs.read.tokenizer_of.Goals as goal

-- A new tokenizer stands at the front of its input.
pub returns : goal.returns
returns c =
    let reads = c.new-2.ensures.reads in
    record {
      same = λ t. rw (c.default.ensures, c.new.ensures) at reads.same _ t;
      takes = record { ready = reads.ready; begun = reads.begun };
    }
