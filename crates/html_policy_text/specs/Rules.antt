-- What the rules of a policy say, and what a rule more makes of them.
use Rattle.std.specs.Prelude.{ℕ, Bool, true, false, cond, List, [], ◌∷◌, ◌++◌, map, Option, Some, None, Result, Ok, Err, codes}
use Rattle.std.specs.Char.{is_ascii_digit}
use Rattle.std.specs.List.{fold, list_all}
use Rattle.std.specs.Str.{bytes_eq}
use Rattle.html_clean.specs.Ready.{addition_parts, rule_names}
use Rattle.html_clean.specs.Values.{after_sign, joined_after, with_digit}
use Rattle.html_clean.specs.Limits.{Limit, LimitParts, limit_parts}
use Rattle.html_clean.specs.Limits.Limit.{Absolute, Numbers, Parts, Prefixed, Proxied, Schemes, Texts}
use Rattle.html_clean.specs.declared.policy.IdForm.{IdForm}
use Rattle.html_clean.specs.declared.policy.IdForm.TheVariants.{Name, Names, Link}
use Rattle.html_clean.specs.declared.policy.Policy.{Policy}
use Rattle.html_policy_text.specs.declared.rules.Keyword.{Keyword}
use Rattle.html_policy_text.specs.declared.rules.Keyword.TheVariants.{Keep, Drop, Attribute, Beginning, Url, Scheme, Values, Add}
use Rattle.html_policy_text.specs.declared.rules.Keyword.TheVariants.{Relative, Host}
use Rattle.html_policy_text.specs.declared.rules.LimitKind.{LimitKind}
use Rattle.html_policy_text.specs.declared.rules.LimitKind.TheVariants as kind
use Rattle.html_policy_text.specs.declared.rules.Problem.{Problem}
use Rattle.html_policy_text.specs.declared.rules.Problem.TheVariants.{UnknownRule, WrongNumber, WrongWords}

-- a policy, as lists
pub record Rules : Type 0 where
  pub kept : List (List ℕ × List (List ℕ))
  pub dropped : List (List ℕ)
  pub everywhere : List (List ℕ)
  pub beginnings : List (List ℕ)
  pub limits : List LimitParts
  pub added : List (List ℕ × (List ℕ × List ℕ))
  pub urls : List (List ℕ)
  pub schemes : List (List ℕ)
  pub relative : Bool
  pub hosts : Bool

abbrev pub rules_of : Policy → Rules
rules_of policy = record {
  kept = map rule_names policy.kept.items;
  dropped = policy.dropped.items;
  everywhere = policy.everywhere.items;
  beginnings = policy.beginnings.items;
  limits = map limit_parts policy.values.items;
  added = map addition_parts policy.added.items;
  urls = policy.urls.items;
  schemes = policy.schemes.items;
  relative = policy.allows_relative;
  hosts = policy.allows_hosts;
}

-- nothing is kept
abbrev pub no_rules : Rules
no_rules = record {
  kept = [];
  dropped = [];
  everywhere = [];
  beginnings = [];
  limits = [];
  added = [];
  urls = [];
  schemes = [];
  relative = false;
  hosts = false;
}

-- the rule that a word begins
abbrev pub keyword_of : List ℕ → Option Keyword
keyword_of word =
    cond (bytes_eq word (codes "keep")) (Some Keep)
    (cond (bytes_eq word (codes "drop")) (Some Drop)
    (cond (bytes_eq word (codes "attribute")) (Some Attribute)
    (cond (bytes_eq word (codes "beginning")) (Some Beginning)
    (cond (bytes_eq word (codes "url")) (Some Url)
    (cond (bytes_eq word (codes "scheme")) (Some Scheme)
    (cond (bytes_eq word (codes "words")) (Some (Values kind.Words))
    (cond (bytes_eq word (codes "one-of")) (Some (Values kind.OneOf))
    (cond (bytes_eq word (codes "schemes-for")) (Some (Values kind.Schemes))
    (cond (bytes_eq word (codes "number")) (Some (Values kind.Number))
    (cond (bytes_eq word (codes "prefix")) (Some (Values (kind.Prefix Name)))
    (cond (bytes_eq word (codes "prefix-words")) (Some (Values (kind.Prefix Names)))
    (cond (bytes_eq word (codes "prefix-link")) (Some (Values (kind.Prefix Link)))
    (cond (bytes_eq word (codes "proxy")) (Some (Values kind.Proxy))
    (cond (bytes_eq word (codes "base")) (Some (Values kind.Base))
    (cond (bytes_eq word (codes "add")) (Some Add)
    (cond (bytes_eq word (codes "relative")) (Some Relative)
    (cond (bytes_eq word (codes "host")) (Some Host) None)))))))))))))))))

-- `keep`, an element and its attributes
abbrev pub with_kept : Rules → List (List ℕ) → Result Rules Problem
with_kept rules [] = Err WrongWords
with_kept rules (element ∷ attributes) = Ok (record rules { kept = rules.kept ++ (element, attributes) ∷ [] })

-- a word that may stand for all elements
abbrev pub target_of : List ℕ → Option (List ℕ)
target_of word = cond (bytes_eq word (codes "*")) None (Some word)

-- what follows "^" in front of a word
abbrev pub after_mark : List ℕ → Option (List ℕ)
after_mark word = after_sign 94 word

-- words without that sign, and what follows it in the others
abbrev pub whole_if : Option (List ℕ) → List ℕ → List (List ℕ)
whole_if (Some beginning) word = []
whole_if None word = word ∷ []

abbrev pub beginning_if : Option (List ℕ) → List (List ℕ)
beginning_if (Some beginning) = beginning ∷ []
beginning_if None = []

abbrev pub whole_words : List (List ℕ) → List (List ℕ)
whole_words [] = []
whole_words (word ∷ words) = whole_if (after_mark word) word ++ whole_words words

abbrev pub word_beginnings : List (List ℕ) → List (List ℕ)
word_beginnings [] = []
word_beginnings (word ∷ words) = beginning_if (after_mark word) ++ word_beginnings words

-- the number that a word is in ASCII digits; one of more than 32 bits is the greatest of 32 bits
abbrev pub number_of : List ℕ → Option ℕ
number_of word = cond (list_all is_ascii_digit word) (Some (fold with_digit 0 word)) None

-- the least and the most that a number may be
abbrev pub bounds : Option ℕ → Option ℕ → Result Limit Problem
bounds (Some least) (Some most) = Ok (Numbers least most)
bounds None most = Err WrongNumber
bounds (Some least) None = Err WrongNumber

abbrev pub numbers_by : List (List ℕ) → Result Limit Problem
numbers_by [] = Err WrongWords
numbers_by (least ∷ []) = Err WrongWords
numbers_by (least ∷ (most ∷ [])) = bounds (number_of least) (number_of most)
numbers_by (least ∷ (most ∷ (word ∷ words))) = Err WrongWords

abbrev pub prefix_by : IdForm → List (List ℕ) → Result Limit Problem
prefix_by form [] = Err WrongWords
prefix_by form (prefix ∷ []) = Ok (Prefixed form prefix)
prefix_by form (prefix ∷ (word ∷ words)) = Err WrongWords

abbrev pub proxy_by : List (List ℕ) → Result Limit Problem
proxy_by [] = Err WrongWords
proxy_by (prefix ∷ []) = Ok (Proxied prefix)
proxy_by (prefix ∷ (word ∷ words)) = Err WrongWords

abbrev pub base_by : List (List ℕ) → Result Limit Problem
base_by [] = Err WrongWords
base_by (base ∷ []) = Ok (Absolute base)
base_by (base ∷ (word ∷ words)) = Err WrongWords

-- what a value may be, by words: words, or beginnings of words after "^"; texts; schemes; two numbers; a prefix, that of a proxy; or a base
abbrev pub limit_by : LimitKind → List (List ℕ) → Result Limit Problem
limit_by kind.Words words = Ok (Parts (whole_words words) (word_beginnings words))
limit_by kind.OneOf texts = Ok (Texts texts)
limit_by kind.Schemes schemes = Ok (Schemes schemes)
limit_by kind.Number words = numbers_by words
limit_by (kind.Prefix form) words = prefix_by form words
limit_by kind.Proxy words = proxy_by words
limit_by kind.Base words = base_by words

-- rules with one more for values
abbrev pub limited : Rules → Option (List ℕ) → List ℕ → Result Limit Problem → Result Rules Problem
limited rules target attribute (Err problem) = Err problem
limited rules target attribute (Ok limit) = Ok (record rules { limits = rules.limits ++ (target, (attribute, limit)) ∷ [] })

-- `words`, `one-of` or another such word, an element or `*`, an attribute, and what its value may be
abbrev pub with_limit : LimitKind → Rules → List (List ℕ) → Result Rules Problem
with_limit of rules [] = Err WrongWords
with_limit of rules (element ∷ []) = Err WrongWords
with_limit of rules (element ∷ (attribute ∷ words)) = limited rules (target_of element) attribute (limit_by of words)

-- `add`, an element, an attribute, and the words of its value
abbrev pub with_added : Rules → List (List ℕ) → Result Rules Problem
with_added rules [] = Err WrongWords
with_added rules (element ∷ []) = Err WrongWords
with_added rules (element ∷ (name ∷ words)) = Ok (record rules {
  added = rules.added ++ (element, (name, joined_after [] words)) ∷ [];
})

-- rules that take one word at least
abbrev pub if_some : List (List ℕ) → Rules → Result Rules Problem
if_some [] next = Err WrongWords
if_some (word ∷ words) next = Ok next

-- rules that take none
abbrev pub if_none : List (List ℕ) → Rules → Result Rules Problem
if_none [] next = Ok next
if_none (word ∷ words) next = Err WrongWords

abbrev pub with_rule : Option Keyword → Rules → List (List ℕ) → Result Rules Problem
with_rule None rules words = Err UnknownRule
with_rule (Some Keep) rules words = with_kept rules words
with_rule (Some Drop) rules words = if_some words (record rules { dropped = rules.dropped ++ words })
with_rule (Some Attribute) rules words = if_some words (record rules { everywhere = rules.everywhere ++ words })
with_rule (Some Beginning) rules words = if_some words (record rules { beginnings = rules.beginnings ++ words })
with_rule (Some Url) rules words = if_some words (record rules { urls = rules.urls ++ words })
with_rule (Some Scheme) rules words = if_some words (record rules { schemes = rules.schemes ++ words })
with_rule (Some (Values of)) rules words = with_limit of rules words
with_rule (Some Add) rules words = with_added rules words
with_rule (Some Relative) rules words = if_none words (record rules { relative = true })
with_rule (Some Host) rules words = if_none words (record rules { hosts = true })
