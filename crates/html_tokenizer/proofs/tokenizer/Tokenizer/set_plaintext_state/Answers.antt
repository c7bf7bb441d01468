use Rattle.std.proofs.Common.{refl, rules}
use Rattle.std.proofs.lemmas.Bool.{and_parts}
use Rattle.html_tokenizer.proofs.Text.NothingHeld.{reads-text}
use Rattle.html_tokenizer.proofs.tokenizer.Tokenizer.set_plaintext_state.Goals as goal

pub returns-clause-reads : goal.returns-clause-reads
returns-clause-reads g c =
    let m = g.Sink.TokenSink in
    reads-text m _ (and_parts _ _ (and_parts _ _ c.requires.nothing_pending).0).1 refl

pub returns-clause-changed : goal.returns-clause-changed
returns-clause-changed g c = search rules
