-- Which policy pages are cleaned by.
use Rattle.std.specs.Prelude.{◌≡◌, ℕ, nat_lt, Bool, true, false, cond, List, [], ◌∷◌, ◌++◌, length, map, Option, Some, None}
use Rattle.std.specs.List.{after_first, before_first, position_or_len, slice_split}
use Rattle.std.specs.Prelude.{◌==◌}
use Rattle.std.specs.Str.{chars}
use Rattle.html_clean.specs.Checks.{never_kept, never_kept_in_fragment}
use Rattle.html_clean.specs.declared.policy.Policy.{Policy}
use Rattle.html_normal.specs.declared.fault.NormalFault.TheVariants.{Memory}
use Rattle.html_normal_program.specs.Program.{Files}
use Rattle.html_policy_text.specs.PolicyFile.{IsPolicyFile, IsPolicyFileFault}
use Rattle.html_policy_text.specs.ReadyRules.{rules_of_ready}
use Rattle.html_policy_text.specs.Rules.{Rules, rules_of}
use Rattle.html_policy_text.specs.declared.file.PolicyFileFault.{PolicyFileFault}
use Rattle.html_policy_text.specs.declared.file.PolicyFileFault.TheVariants as file
use Rattle.html_policy_text.specs.declared.ready.Ready.TheVariants.{TextAndLinks}
use Rattle.html_clean_program.specs.declared.fault.CleanFault.{CleanFault}
use Rattle.html_clean_program.specs.declared.fault.CleanFault.TheVariants as clean
use Rattle.html_clean_program.specs.declared.words.Kind.{Kind}
use Rattle.html_clean_program.specs.declared.words.Kind.TheVariants.{Element, Attribute, Beginning, Addition, Scheme}

-- WHAT OPTIONS ADD

abbrev pub is_colon : ℕ → Bool
is_colon c = c == 58

abbrev pub is_comma : ℕ → Bool
is_comma c = c == 44

-- an element, and after a colon its attributes, as in `br` and `img:src,alt`
abbrev pub rule_of : List ℕ → List ℕ × List (List ℕ)
rule_of word = cond (nat_lt (position_or_len is_colon word) (length word))
    (chars (before_first is_colon word), map chars (slice_split is_comma (after_first is_colon word))) (chars word, [])

abbrev pub is_equals : ℕ → Bool
is_equals c = c == 61

-- an element, after a colon the name of an attribute, and after an equals sign its value, as in `a:rel=nofollow`
abbrev pub addition_of : List ℕ → List ℕ × (List ℕ × List ℕ)
addition_of word =
    let attribute = after_first is_colon word in
    (chars (before_first is_colon word), (chars (before_first is_equals attribute), chars (after_first is_equals attribute)))

abbrev pub with_extra : Kind → List ℕ → Rules → Rules
with_extra Element word rules = record rules { kept = rules.kept ++ rule_of word ∷ [] }
with_extra Attribute word rules = record rules { everywhere = rules.everywhere ++ chars word ∷ [] }
with_extra Beginning word rules = record rules { beginnings = rules.beginnings ++ chars word ∷ [] }
with_extra Addition word rules = record rules { added = rules.added ++ addition_of word ∷ [] }
with_extra Scheme word rules = record rules { schemes = rules.schemes ++ chars word ∷ [] }

abbrev pub with_extras : List (Kind × List ℕ) → Rules → Rules
with_extras [] rules = rules
with_extras (extra ∷ extras) rules = with_extras extras (with_extra extra.0 extra.1 rules)

-- THE FILE WITH THE POLICY

-- the rules of the policy in a file: where its bytes are stated, there is such a file, and its text says them
abbrev pub IsPolicyIn : Option (Option (List ℕ)) → Rules → Type 0
IsPolicyIn None rules = Unit {0}
IsPolicyIn (Some None) rules = ⊥
IsPolicyIn (Some (Some bytes)) rules = IsPolicyFile bytes (Some []) rules

-- why a file has no policy: there is none, or what reading it tells
abbrev pub IsNoPolicyIn : Option (Option (List ℕ)) → PolicyFileFault → Type 0
IsNoPolicyIn None fault = Unit {0}
IsNoPolicyIn (Some None) fault = fault ≡ file.Read
IsNoPolicyIn (Some (Some bytes)) fault = (left : Option (List ℕ)) × IsPolicyFileFault (Some bytes) left fault

-- the rules that the options are put to: those of the file that is named, or of the ready policy for texts and links
abbrev pub IsStart : Files → List (List ℕ) → Rules → Type 0
IsStart files [] rules = rules ≡ rules_of_ready TextAndLinks
IsStart files (name ∷ []) rules = IsPolicyIn (files name) rules
IsStart files (name ∷ other ∷ names) rules = ⊥

-- why the file that is named, which has this name, has no policy
abbrev pub LacksPolicy : Files → List (List ℕ) → List ℕ → PolicyFileFault → Type 0
LacksPolicy files (name ∷ []) spelled fault = (spelled ≡ chars name) × IsNoPolicyIn (files name) fault
LacksPolicy files names spelled fault = ⊥

-- a fault of the file of that name, or out of memory
abbrev pub IsPolicyFault : List ℕ → PolicyFileFault → CleanFault → Type 0
IsPolicyFault name why clean.Usage = ⊥
IsPolicyFault name why (clean.NeverKept word) = ⊥
IsPolicyFault name why (clean.Policy spelled given) = (spelled ≡ chars name) × (given ≡ why)
IsPolicyFault name why (clean.Table given) = ⊥
IsPolicyFault name why (clean.Normal given) = given ≡ Memory
IsPolicyFault name why (clean.Page given) = ⊥

-- why there is nothing to put the options to
abbrev pub HasNoStart : Files → List (List ℕ) → CleanFault → Type 0
HasNoStart files names clean.Usage = ⊥
HasNoStart files names (clean.NeverKept word) = ⊥
HasNoStart files names (clean.Policy spelled why) = LacksPolicy files names spelled why
HasNoStart files names (clean.Table why) = ⊥
HasNoStart files names (clean.Normal why) = why ≡ Memory
HasNoStart files names (clean.Page why) = ⊥

-- THE POLICY

-- the first word of a policy that is never kept in a document, or in a fragment
abbrev pub refused : Bool → Policy → Option (List ℕ)
refused true policy = never_kept policy
refused false policy = never_kept_in_fragment policy

-- the word that is never kept, or out of memory
abbrev pub IsRefusedBy : Option (List ℕ) → CleanFault → Type 0
IsRefusedBy first clean.Usage = ⊥
IsRefusedBy first (clean.NeverKept word) = first ≡ Some word
IsRefusedBy first (clean.Policy spelled why) = ⊥
IsRefusedBy first (clean.Table why) = ⊥
IsRefusedBy first (clean.Normal why) = why ≡ Memory
IsRefusedBy first (clean.Page why) = ⊥

-- a policy has what the file says, and what the options add
pub record HasRules (files : Files) (names : List (List ℕ)) (extras : List (Kind × List ℕ)) (policy : Policy) : Type 0 where
  pub start : Rules
  pub is_start : IsStart files names start
  pub all : rules_of policy ≡ with_extras extras start

-- a policy that has that names what is never kept
pub record NamesNeverKept (files : Files) (names : List (List ℕ)) (extras : List (Kind × List ℕ)) (document : Bool)
    (word : List ℕ) : Type 0 where
  pub policy : Policy
  pub has : HasRules files names extras policy
  pub is_refused : refused document policy ≡ Some word

-- why there is no policy to clean pages by
abbrev pub HasNoPolicy : Files → List (List ℕ) → List (Kind × List ℕ) → Bool → CleanFault → Type 0
HasNoPolicy files names extras document clean.Usage = ⊥
HasNoPolicy files names extras document (clean.NeverKept word) = NamesNeverKept files names extras document word
HasNoPolicy files names extras document (clean.Policy spelled why) = LacksPolicy files names spelled why
HasNoPolicy files names extras document (clean.Table why) = ⊥
HasNoPolicy files names extras document (clean.Normal why) = why ≡ Memory
HasNoPolicy files names extras document (clean.Page why) = ⊥
