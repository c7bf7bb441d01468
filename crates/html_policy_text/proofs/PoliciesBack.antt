-- A policy that is written is read back.
use Rattle.std.proofs.Common.{◌≡◌, ◌∙◌, ℕ, Bool, true, false, List, [], ◌∷◌, ◌++◌, Option, None, Some, Ok, ap, append_assoc}
use Rattle.std.proofs.Common.{map, refl, subst, sym}
use Rattle.std.specs.Prelude.{◌&&◌, codes, cond, nat_le, not}
use Rattle.std.specs.Fmt.{decimal}
use Rattle.std.specs.List.{list_all}
use Rattle.std.specs.Str.{bytes_eq}
use Rattle.std.proofs.lemmas.Bool.{and_from, and_parts}
use Rattle.std.proofs.lemmas.List.{append-nil}
use Rattle.std.proofs.lemmas.List.Folds.{list_all-append}
use Rattle.std.proofs.lemmas.Slice.Eq.{bytes_eq-Decides}
use Rattle.html_clean.specs.Values.{greatest, joined_after, words_of}
use Rattle.html_policy_text.specs.PolicyText.{lines_of, policy_rules, read_lines, with_line}
use Rattle.html_clean.specs.Limits.{Limit, LimitParts}
use Rattle.html_clean.specs.Limits.Limit.{Absolute, Numbers, Parts, Prefixed, Proxied, Schemes, Texts}
use Rattle.html_clean.specs.declared.policy.IdForm.TheVariants.{Name, Names, Link}
use Rattle.html_policy_text.specs.Rules.{Rules, bounds, limit_by, limited as with_one, no_rules, number_of, target_of}
use Rattle.html_policy_text.specs.Rules.{whole_words, word_beginnings}
use Rattle.html_policy_text.specs.Written.{addition_text, are_lists_writable, flag_text, is_addition_writable, is_limit_writable}
use Rattle.html_policy_text.specs.Written.{is_rule_writable, is_solid, is_target_writable, is_value, is_value_rule_writable, is_whole}
use Rattle.html_policy_text.specs.Written.{is_word, is_writable, limit_keyword, limit_text, limit_words, list_text, marked, policy_text, rule_text}
use Rattle.html_policy_text.specs.Written.{target_word, texts_of}
use Rattle.html_policy_text.specs.declared.rules.LimitKind.TheVariants as kind
use Rattle.html_policy_text.proofs.Numbers.{decimal-is, number-back}
use Rattle.html_policy_text.proofs.ReadBack.{Reads, beginnings-back, line-read, list-read, marked-are, not-true, nothing-read, then-read}
use Rattle.html_policy_text.proofs.ReadBack.{wholes-are, wholes-back, words-are}

-- ELEMENTS

kept-read : (kept : List (List ℕ × List (List ℕ))) (rules : Rules) → list_all is_rule_writable kept ≡ true
    → Reads (texts_of rule_text kept) rules (record rules { kept = rules.kept ++ kept })
kept-read [] rules h =
    subst (λ (kept : List (List ℕ × List (List ℕ))). Reads [] rules (record rules { kept = kept })) (sym (append-nil rules.kept))
    (nothing-read rules)
kept-read (rule ∷ kept) rules h =
    let both = and_parts (is_rule_writable rule) (list_all is_rule_writable kept) h in
    let next : Rules = record rules { kept = rules.kept ++ rule ∷ [] } in
    subst (λ (all : List (List ℕ × List (List ℕ))). Reads (rule_text rule ++ texts_of rule_text kept) rules (record rules { kept = all }))
    (append_assoc rules.kept (rule ∷ []) kept)
    (then-read (rule_text rule) (texts_of rule_text kept) rules next (record next { kept = next.kept ++ kept })
    (line-read (codes "keep") (rule.0 ∷ rule.1) rules next refl both.0 refl)
    (kept-read kept next both.1))

-- LIMITS

target-back : (target : Option (List ℕ)) → is_target_writable target ≡ true → target_of (target_word target) ≡ target
target-back None h = refl
target-back (Some name) h =
    ap (λ (b : Bool). cond b None (Some name))
    (not-true (bytes_eq name (codes "*")) (and_parts (is_word name) (not (bytes_eq name (codes "*"))) h).1)

target-is : (target : Option (List ℕ)) → is_target_writable target ≡ true → is_word (target_word target) ≡ true
target-is None h = refl
target-is (Some name) h = (and_parts (is_word name) (not (bytes_eq name (codes "*"))) h).0

keyword-is : (limit : Limit) → is_limit_writable limit ≡ true → is_word (limit_keyword limit) ≡ true
keyword-is (Texts texts) h = refl
keyword-is (Parts words beginnings) h = refl
keyword-is (Numbers least most) h = refl
keyword-is (Schemes schemes) h = refl
keyword-is (Prefixed Name prefix) h = refl
keyword-is (Prefixed Names prefix) h = refl
keyword-is (Prefixed Link prefix) h = refl
keyword-is (Proxied prefix) h = refl
keyword-is (Absolute base) h = refl

limit-words-are : (limit : Limit) → is_limit_writable limit ≡ true → list_all is_word (limit_words limit) ≡ true
limit-words-are (Texts texts) h = h
limit-words-are (Parts words beginnings) h =
    let both = and_parts (list_all is_whole words) (list_all (list_all is_solid) beginnings) h in
    list_all-append is_word words (map marked beginnings)
    ∙ and_from (list_all is_word words) (list_all is_word (map marked beginnings)) (wholes-are words both.0) (marked-are beginnings both.1)
limit-words-are (Numbers least most) h =
    let both = and_parts (nat_le least greatest) (nat_le most greatest) h in
    and_from (is_word (decimal least)) (is_word (decimal most) && true) (decimal-is least both.0)
    (and_from (is_word (decimal most)) true (decimal-is most both.1) refl)
limit-words-are (Schemes schemes) h = h
limit-words-are (Prefixed form prefix) h = and_from (is_word prefix) true h refl
limit-words-are (Proxied prefix) h = and_from (is_word prefix) true h refl
limit-words-are (Absolute base) h = and_from (is_word base) true h refl

abbrev Limits : Type 0
Limits = List LimitParts

-- the bounds of a number are read from their digits
numbers-back : (least most : ℕ) → nat_le least greatest ≡ true → nat_le most greatest ≡ true
    → limit_by kind.Number (decimal least ∷ decimal most ∷ []) ≡ Ok (Numbers least most)
numbers-back least most h k =
    ap (λ number. bounds number (number_of (decimal most))) (number-back least h) ∙ ap (bounds (Some least)) (number-back most k)

limit-taken : (rules : Rules) (target : Option (List ℕ)) (attribute : List ℕ) (limit : Limit) → is_target_writable target ≡ true
    → is_limit_writable limit ≡ true
    → with_line rules (limit_keyword limit ∷ (target_word target ∷ (attribute ∷ limit_words limit)))
    ≡ Ok (record rules { limits = rules.limits ++ (target, (attribute, limit)) ∷ [] })
limit-taken rules target attribute (Texts texts) t h =
    ap (λ (of : Option (List ℕ)). Ok (record rules { limits = rules.limits ++ (of, (attribute, Texts texts)) ∷ [] })) (target-back target t)
limit-taken rules target attribute (Parts words beginnings) t h =
    let both = and_parts (list_all is_whole words) (list_all (list_all is_solid) beginnings) h in
    ap (λ (of : Option (List ℕ)). Ok (record rules {
      limits = rules.limits ++ (
        of,
        (
          attribute,
          Parts (whole_words (words ++ map marked beginnings))
              (word_beginnings (words ++ map marked beginnings)),
        ),
      ) ∷ [];
    })) (target-back target t)
    ∙ (ap (λ (whole : List (List ℕ)). Ok (record rules {
      limits = rules.limits ++ (target, (attribute, Parts whole (word_beginnings (words ++ map marked beginnings)))) ∷ [];
    })) (wholes-back words beginnings both.0)
    ∙ ap (λ (begun : List (List ℕ)). Ok (record rules { limits = rules.limits ++ (target, (attribute, Parts words begun)) ∷ [] }))
    (beginnings-back words beginnings both.0))
limit-taken rules target attribute (Numbers least most) t h =
    let both = and_parts (nat_le least greatest) (nat_le most greatest) h in
    ap (with_one rules (target_of (target_word target)) attribute) (numbers-back least most both.0 both.1)
    ∙ ap (λ (of : Option (List ℕ)). Ok (record rules { limits = rules.limits ++ (of, (attribute, Numbers least most)) ∷ [] }))
    (target-back target t)
limit-taken rules target attribute (Schemes schemes) t h =
    ap (λ (of : Option (List ℕ)). Ok (record rules { limits = rules.limits ++ (of, (attribute, Schemes schemes)) ∷ [] }))
    (target-back target t)
limit-taken rules target attribute (Prefixed Name prefix) t h =
    ap (λ (of : Option (List ℕ)). Ok (record rules { limits = rules.limits ++ (of, (attribute, Prefixed Name prefix)) ∷ [] }))
    (target-back target t)
limit-taken rules target attribute (Prefixed Names prefix) t h =
    ap (λ (of : Option (List ℕ)). Ok (record rules { limits = rules.limits ++ (of, (attribute, Prefixed Names prefix)) ∷ [] }))
    (target-back target t)
limit-taken rules target attribute (Prefixed Link prefix) t h =
    ap (λ (of : Option (List ℕ)). Ok (record rules { limits = rules.limits ++ (of, (attribute, Prefixed Link prefix)) ∷ [] }))
    (target-back target t)
limit-taken rules target attribute (Proxied prefix) t h =
    ap (λ (of : Option (List ℕ)). Ok (record rules { limits = rules.limits ++ (of, (attribute, Proxied prefix)) ∷ [] }))
    (target-back target t)
limit-taken rules target attribute (Absolute base) t h =
    ap (λ (of : Option (List ℕ)). Ok (record rules { limits = rules.limits ++ (of, (attribute, Absolute base)) ∷ [] }))
    (target-back target t)

limits-read : (limits : Limits) (rules : Rules) → list_all is_value_rule_writable limits ≡ true
    → Reads (texts_of limit_text limits) rules (record rules { limits = rules.limits ++ limits })
limits-read [] rules h =
    subst (λ (limits : Limits). Reads [] rules (record rules { limits = limits })) (sym (append-nil rules.limits)) (nothing-read rules)
limits-read (limit ∷ limits) rules h =
    let both = and_parts (is_value_rule_writable limit) (list_all is_value_rule_writable limits) h in
    let parts = and_parts (is_target_writable limit.0) (is_word limit.1.0 && is_limit_writable limit.1.1) both.0 in
    let inner = and_parts (is_word limit.1.0) (is_limit_writable limit.1.1) parts.1 in
    let next : Rules = record rules { limits = rules.limits ++ limit ∷ [] } in
    subst (λ (all : Limits). Reads (limit_text limit ++ texts_of limit_text limits) rules (record rules { limits = all }))
    (append_assoc rules.limits (limit ∷ []) limits)
    (then-read (limit_text limit) (texts_of limit_text limits) rules next (record next { limits = next.limits ++ limits })
    (line-read (limit_keyword limit.1.1) (target_word limit.0 ∷ (limit.1.0 ∷ limit_words limit.1.1)) rules next
    (keyword-is limit.1.1 inner.1)
    (and_from (is_word (target_word limit.0)) (is_word limit.1.0 && list_all is_word (limit_words limit.1.1)) (target-is limit.0 parts.0)
    (and_from (is_word limit.1.0) (list_all is_word (limit_words limit.1.1)) inner.0 (limit-words-are limit.1.1 inner.1)))
    (limit-taken rules limit.0 limit.1.0 limit.1.1 parts.0 inner.1))
    (limits-read limits next both.1))

-- ATTRIBUTES THAT ARE ADDED

abbrev Added : Type 0
Added = List (List ℕ × (List ℕ × List ℕ))

added-read : (added : Added) (rules : Rules) → list_all is_addition_writable added ≡ true
    → Reads (texts_of addition_text added) rules (record rules { added = rules.added ++ added })
added-read [] rules h =
    subst (λ (added : Added). Reads [] rules (record rules { added = added })) (sym (append-nil rules.added)) (nothing-read rules)
added-read (one ∷ added) rules h =
    let both = and_parts (is_addition_writable one) (list_all is_addition_writable added) h in
    let parts = and_parts (is_word one.0) (is_word one.1.0 && is_value one.1.1) both.0 in
    let inner = and_parts (is_word one.1.0) (is_value one.1.1) parts.1 in
    let next : Rules = record rules { added = rules.added ++ one ∷ [] } in
    let words = words-are one.1.1 [] refl in
    subst (λ (all : Added). Reads (addition_text one ++ texts_of addition_text added) rules (record rules { added = all }))
    (append_assoc rules.added (one ∷ []) added)
    (then-read (addition_text one) (texts_of addition_text added) rules next (record next { added = next.added ++ added })
    (line-read (codes "add") (one.0 ∷ (one.1.0 ∷ words_of one.1.1)) rules next refl
    (and_from (is_word one.0) (is_word one.1.0 && list_all is_word (words_of one.1.1)) parts.0
    (and_from (is_word one.1.0) (list_all is_word (words_of one.1.1)) inner.0 words))
    (ap (λ (value : List ℕ). Ok (record rules { added = rules.added ++ (one.0, (one.1.0, value)) ∷ [] }))
    ((bytes_eq-Decides (joined_after [] (words_of one.1.1)) one.1.1).0 inner.1)))
    (added-read added next both.1))

-- FLAGS

relative-read : (rules : Rules) (is : Bool) → rules.relative ≡ false
    → Reads (flag_text (codes "relative") is) rules (record rules { relative = is })
relative-read rules false h = subst (λ (b : Bool). Reads [] rules (record rules { relative = b })) h (nothing-read rules)
relative-read rules true h = line-read (codes "relative") [] rules (record rules { relative = true }) refl refl refl

hosts-read : (rules : Rules) (is : Bool) → rules.hosts ≡ false → Reads (flag_text (codes "host") is) rules (record rules { hosts = is })
hosts-read rules false h = subst (λ (b : Bool). Reads [] rules (record rules { hosts = b })) h (nothing-read rules)
hosts-read rules true h = line-read (codes "host") [] rules (record rules { hosts = true }) refl refl refl

-- ALL

all-read : (rules : Rules) → is_writable rules ≡ true → Reads (policy_text rules) no_rules rules
all-read rules h =
    let lists = and_parts (are_lists_writable rules)
    (list_all is_value_rule_writable rules.limits && list_all is_addition_writable rules.added) h in
    let values = and_parts (list_all is_value_rule_writable rules.limits) (list_all is_addition_writable rules.added) lists.1 in
    let halves = and_parts
    (list_all is_rule_writable rules.kept && (list_all is_word rules.dropped && list_all is_word rules.everywhere))
    (list_all is_word rules.beginnings && (list_all is_word rules.urls && list_all is_word rules.schemes)) lists.0 in
    let first = and_parts (list_all is_rule_writable rules.kept) (list_all is_word rules.dropped && list_all is_word rules.everywhere)
    halves.0 in
    let names = and_parts (list_all is_word rules.dropped) (list_all is_word rules.everywhere) first.1 in
    let second = and_parts (list_all is_word rules.beginnings) (list_all is_word rules.urls && list_all is_word rules.schemes) halves.1 in
    let urls = and_parts (list_all is_word rules.urls) (list_all is_word rules.schemes) second.1 in
    let r1 : Rules = record no_rules { kept = rules.kept } in
    let r2 : Rules = record r1 { dropped = rules.dropped } in
    let r3 : Rules = record r2 { everywhere = rules.everywhere } in
    let r4 : Rules = record r3 { beginnings = rules.beginnings } in
    let r5 : Rules = record r4 { limits = rules.limits } in
    let r6 : Rules = record r5 { added = rules.added } in
    let r7 : Rules = record r6 { urls = rules.urls } in
    let r8 : Rules = record r7 { schemes = rules.schemes } in
    let r9 : Rules = record r8 { relative = rules.relative } in
    let t1 = texts_of rule_text rules.kept in
    let t2 = t1 ++ list_text (codes "drop") rules.dropped in
    let t3 = t2 ++ list_text (codes "attribute") rules.everywhere in
    let t4 = t3 ++ list_text (codes "beginning") rules.beginnings in
    let t5 = t4 ++ texts_of limit_text rules.limits in
    let t6 = t5 ++ texts_of addition_text rules.added in
    let t7 = t6 ++ list_text (codes "url") rules.urls in
    let t8 = t7 ++ list_text (codes "scheme") rules.schemes in
    let t9 = t8 ++ flag_text (codes "relative") rules.relative in
    let f2 = then-read t1 (list_text (codes "drop") rules.dropped) no_rules r1 r2 (kept-read rules.kept no_rules first.0)
    (list-read (codes "drop") rules.dropped r1 (λ l. record r1 { dropped = l }) refl names.0 refl (λ w ws. refl)) in
    let f3 = then-read t2 (list_text (codes "attribute") rules.everywhere) no_rules r2 r3 f2
    (list-read (codes "attribute") rules.everywhere r2 (λ l. record r2 { everywhere = l }) refl names.1 refl (λ w ws. refl)) in
    let f4 = then-read t3 (list_text (codes "beginning") rules.beginnings) no_rules r3 r4 f3
    (list-read (codes "beginning") rules.beginnings r3 (λ l. record r3 { beginnings = l }) refl second.0 refl (λ w ws. refl)) in
    let f5 = then-read t4 (texts_of limit_text rules.limits) no_rules r4 r5 f4 (limits-read rules.limits r4 values.0) in
    let f6 = then-read t5 (texts_of addition_text rules.added) no_rules r5 r6 f5 (added-read rules.added r5 values.1) in
    let f7 = then-read t6 (list_text (codes "url") rules.urls) no_rules r6 r7 f6
    (list-read (codes "url") rules.urls r6 (λ l. record r6 { urls = l }) refl urls.0 refl (λ w ws. refl)) in
    let f8 = then-read t7 (list_text (codes "scheme") rules.schemes) no_rules r7 r8 f7
    (list-read (codes "scheme") rules.schemes r7 (λ l. record r7 { schemes = l }) refl urls.1 refl (λ w ws. refl)) in
    let f9 = then-read t8 (flag_text (codes "relative") rules.relative) no_rules r8 r9 f8 (relative-read r8 rules.relative refl) in
    then-read t9 (flag_text (codes "host") rules.hosts) no_rules r9 rules f9 (hosts-read r9 rules.hosts refl)

-- reading what was written gives the same rules
pub written-read : (rules : Rules) → is_writable rules ≡ true → policy_rules (policy_text rules) ≡ Ok rules
written-read rules h =
    let all = (all-read rules h).go 1 [] in
    ap (λ (text : List ℕ). read_lines 1 no_rules (lines_of text)) (sym (append-nil (policy_text rules))) ∙ all.1
