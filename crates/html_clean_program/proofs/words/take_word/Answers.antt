use Rattle.std.proofs.Common.{◌∙◌, ℕ, List, [], ◌∷◌, ◌++◌, Bor, ap, map, refl, sym, true}
use Rattle.std.proofs.lemmas.List.{map-append}
use Rattle.html_clean_program.proofs.words.take_word.Goals as goal

pub returns-then-eq-clause-ok : goal.returns-then-eq-clause-ok
returns-then-eq-clause-ok c = λ request held. (
  record request { document = true },
  record {
    policy = held.policy;
    extras = held.extras;
    document = refl;
    table = held.table;
    output = held.output;
    files = held.files;
  },
  λ words. rw (sym c.eq.ensures ∙ c.if-eq.true) refl,
)

pub returns-in-Ok-clause-ok : goal.returns-in-Ok-clause-ok
returns-in-Ok-clause-ok c = λ request held.
    let now : Bor (List ℕ) → List ℕ = λ name. name.now in (
      record request { files = request.files ++ c.args.word.now ∷ [] },
      record {
        policy = held.policy;
        extras = held.extras;
        document = held.document;
        table = held.table;
        output = held.output;
        files = ap (map now) c.in-Ok.ensures.items ∙ map-append now c.args.asked.now.files.items (c.args.word ∷ [])
            ∙ ap (λ names. names ++ c.args.word.now ∷ []) held.files;
      },
      λ words. rw (sym c.eq.ensures ∙ c.if-eq.false) (rw (sym c.is_option.ensures ∙ c.if-not-is_option.true) refl),
    )
