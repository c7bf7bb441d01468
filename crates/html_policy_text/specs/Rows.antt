-- Worked rows.
use Rattle.std.specs.Prelude.{◌≡◌, ℕ, true, List, [], ◌∷◌, ◌++◌, None, Some, Result, Ok, Err, codes, map}
use Rattle.html_policy_text.specs.PolicyText.{policy_rules}
use Rattle.html_policy_text.specs.Rules.{Rules, no_rules}
use Rattle.html_clean.specs.Limits.Limit.{Absolute, Numbers, Parts, Prefixed, Proxied, Schemes, Texts}
use Rattle.html_clean.specs.declared.policy.IdForm.TheVariants.{Name, Names, Link}
use Rattle.html_policy_text.specs.declared.rules.Problem.{Problem}
use Rattle.html_policy_text.specs.declared.rules.Problem.TheVariants.{UnknownRule, WrongNumber, WrongWords}

abbrev pub policy_rows : List (List ℕ × Result Rules (ℕ × Problem))
policy_rows =
    (codes "", Ok no_rules)
    ∷ (codes "# nothing" ++ 10 ∷ 10 ∷ 32 ∷ 9 ∷ 10 ∷ [], Ok no_rules)
    ∷ (
      codes "keep a href  hreflang" ++ 13 ∷ 10 ∷ codes "keep br",
      Ok (record no_rules {
        kept = (codes "a", codes "href" ∷ codes "hreflang" ∷ []) ∷ (codes "br", []) ∷ [];
      }),
    )
    ∷ (
      codes "words code class note ^language-" ++ 10 ∷ codes "one-of * dir ltr rtl",
      Ok (record no_rules {
        limits = (Some (codes "code"), (codes "class", Parts (codes "note" ∷ []) (codes "language-" ∷ []))) ∷
            (None, (codes "dir", Texts (codes "ltr" ∷ codes "rtl" ∷ []))) ∷ [];
      }),
    )
    ∷ (
      codes "schemes-for a href https mailto tel",
      Ok (record no_rules {
        limits = (Some (codes "a"), (codes "href", Schemes (codes "https" ∷ codes "mailto" ∷ codes "tel" ∷ []))) ∷ [];
      }),
    )
    ∷ (
      codes "number ol start 0 9999" ++ 10 ∷ codes "number * colspan 007 99999999999",
      Ok (record no_rules {
        limits = (Some (codes "ol"), (codes "start", Numbers 0 9999)) ∷ (None, (codes "colspan", Numbers 7 4294967295)) ∷ [];
      }),
    )
    ∷ (
      codes "prefix * id user-" ++ 10 ∷ codes "prefix-words td headers user-" ++ 10 ∷ codes "prefix-link a href user-",
      Ok (record no_rules {
        limits = (None, (codes "id", Prefixed Name (codes "user-"))) ∷
            (Some (codes "td"), (codes "headers", Prefixed Names (codes "user-"))) ∷
            (Some (codes "a"), (codes "href", Prefixed Link (codes "user-"))) ∷ [];
      }),
    )
    ∷ (
      codes "proxy img src https://p/?u=",
      Ok (record no_rules { limits = (Some (codes "img"), (codes "src", Proxied (codes "https://p/?u="))) ∷ [] }),
    )
    ∷ (
      codes "base * href https://b/c/",
      Ok (record no_rules { limits = (None, (codes "href", Absolute (codes "https://b/c/"))) ∷ [] }),
    )
    ∷ (codes "base * href", Err (1, WrongWords))
    ∷ (codes "proxy img src", Err (1, WrongWords))
    ∷ (codes "proxy img src a b", Err (1, WrongWords))
    ∷ (codes "prefix * id", Err (1, WrongWords))
    ∷ (codes "prefix-link a href user- x", Err (1, WrongWords))
    ∷ (codes "number ol start 0", Err (1, WrongWords))
    ∷ (codes "number ol start 0 1 2", Err (1, WrongWords))
    ∷ (codes "number ol start -1 1", Err (1, WrongNumber))
    ∷ (codes "number ol start 0 many", Err (1, WrongNumber))
    ∷ (
      codes "add a rel nofollow noopener" ++ 10 ∷ codes "add input disabled",
      Ok (record no_rules {
        added = (codes "a", (codes "rel", codes "nofollow noopener")) ∷ (codes "input", (codes "disabled", [])) ∷ [];
      }),
    )
    ∷ (
      codes "drop script style" ++ 10 ∷ codes "scheme https" ++ 10 ∷ codes "relative" ++ 10 ∷ codes "host",
      Ok (record no_rules {
        dropped = codes "script" ∷ codes "style" ∷ [];
        schemes = codes "https" ∷ [];
        relative = true;
        hosts = true;
      }),
    )
    ∷ (
      codes "attribute lang" ++ 10 ∷ codes "beginning data-" ++ 10 ∷ codes "url data-src",
      Ok (record no_rules {
        everywhere = codes "lang" ∷ [];
        beginnings = codes "data-" ∷ [];
        urls = codes "data-src" ∷ [];
      }),
    )
    ∷ (codes "keep a" ++ 10 ∷ codes "kept b" ++ 10 ∷ codes "drop", Err (2, UnknownRule))
    ∷ (10 ∷ codes "drop", Err (2, WrongWords))
    ∷ (codes "relative yes", Err (1, WrongWords))
    ∷ (codes "words code class" ++ 10 ∷ codes "words code", Err (2, WrongWords))
    ∷ []

abbrev pub ArePolicyRows : Type 0
ArePolicyRows = map (λ row. policy_rules row.0) policy_rows ≡ map (λ row. row.1) policy_rows
