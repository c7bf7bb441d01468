-- What words ask for, and what is held of it.
use Rattle.std.proofs.Common.{inl, None, Some, Option, Result, Ok, Err, ◌≡◌, ◌∙◌, ℕ, Bool, List, [], ◌∷◌, ◌++◌, ap, map, refl, subst, sym}
use Rattle.std.specs.Prelude.{◌⊎◌, IfErr, IfOk, OnOk, option_map}
use Rattle.html_clean.specs.declared.policy.Policy.{Policy}
use Rattle.html_normal.specs.declared.fault.NormalFault.TheVariants.{Memory}
use Rattle.html_normal_program.specs.Program.{Files, HasNoTable, IsTable, named}
use Rattle.html_tokens.specs.Table.{Row}
use Rattle.html_policy_text.specs.declared.file.PolicyFileFault.{PolicyFileFault}
use Rattle.html_clean_program.specs.Policies.{HasNoPolicy, HasNoStart, HasRules, IsNoPolicyIn, IsPolicyFault, IsRefusedBy, LacksPolicy}
use Rattle.html_clean_program.specs.Policies.{NamesNeverKept, refused}
use Rattle.html_normal.specs.declared.program.ProgramFault.{ProgramFault}
use Rattle.html_normal.specs.declared.program.ProgramFault.TheVariants as program
use Rattle.html_clean_program.specs.Program.{IsRefused, LacksTable, Wanted, table_fault_of}
use Rattle.html_clean_program.specs.Words.{AsksFor, IsAsked, Request, asked_by, extra_of, taken}
use Rattle.html_clean_program.specs.declared.fault.CleanFault.{CleanFault}
use Rattle.html_clean_program.specs.declared.fault.CleanFault.TheVariants.{NeverKept, Normal, Page, Policy as Unread, Table, Usage}
use Rattle.html_clean_program.specs.declared.words.Asked.{Asked}
use Rattle.html_clean_program.specs.declared.words.Kind.{Kind}
use Rattle.html_clean_program.specs.declared.words.Takes.{Takes}
use Rattle.html_clean_program.specs.declared.words.Takes.TheVariants.{Extra}

-- WORDS

-- what the policy is to keep or to add was taken
pub extra-taken : (r : Result (Unit {0}) CleanFault) (asked asked' : Asked) (kind : Kind) (word : List ℕ)
    → asked' ≡ record asked { extras = asked'.extras }
    → OnOk r (map extra_of asked'.extras.items ≡ map extra_of asked.extras.items ++ (kind, word) ∷ [])
    → OnOk r ((request : Request) → IsAsked asked request → IsAsked asked' (taken (Extra kind) word request))
extra-taken (Ok x) asked asked' kind word same ok = λ request held. record {
  policy = ap (λ (a : Asked). named a.policy) same ∙ held.policy;
  extras = ok ∙ ap (λ (extras : List (Kind × List ℕ)). extras ++ (kind, word) ∷ []) held.extras;
  document = ap (λ (a : Asked). a.is_document) same ∙ held.document;
  table = ap (λ (a : Asked). named a.table) same ∙ held.table;
  output = ap (λ (a : Asked). option_map (λ name. name.now) a.output) same ∙ held.output;
  files = ap (λ (a : Asked). map (λ name. name.now) a.files.items) same ∙ held.files;
}
extra-taken (Err fault) asked asked' kind word same ok = tt

-- what a word after others made of what is held, and what it takes of the next one
abbrev pub IsNext : Option Takes → Asked → Asked → List ℕ → Option Takes → Type 0
IsNext takes asked asked' word next_takes = (request : Request) → IsAsked asked request → (next : Request) × IsAsked asked' next
    × ((words : List (List ℕ)) → asked_by takes request (word ∷ words) ≡ asked_by next_takes next words)

-- the word after an option was taken
pub next-after : (takes : Option Takes) (of : Takes) (asked asked' : Asked) (word : List ℕ) (r : Result (Option Takes) CleanFault)
    → takes ≡ Some of
    → IfOk r (λ next. (next ≡ None) × ((request : Request) → IsAsked asked request → IsAsked asked' (taken of word request)))
    → IfOk r (IsNext takes asked asked' word)
next-after takes of asked asked' word (Ok next) e h = λ request held. (
  taken of word request,
  h.1 request held,
  λ words. ap (λ t. asked_by t request (word ∷ words)) e ∙ ap (λ t. asked_by t (taken of word request) words) (sym h.0),
)
next-after takes of asked asked' word (Err fault) e h = tt

pub next-fault : (r : Result (Option Takes) CleanFault) (P : Type 0) → IfErr r (λ fault. fault ≡ Normal Memory)
    → IfErr r (λ fault. (fault ≡ Normal Memory) ⊎ ((fault ≡ Usage) × P))
next-fault (Ok next) P h = tt
next-fault (Err fault) P h = inl h

-- POLICIES

-- why the file that is named has no policy
pub no-file : (files : Files) (name : List ℕ) (why : PolicyFileFault) (fault : CleanFault) → IsNoPolicyIn (files name) why
    → IsPolicyFault name why fault → HasNoStart files (name ∷ []) fault
no-file files name why Usage h k = k
no-file files name why (NeverKept word) h k = k
no-file files name why (Unread spelled given) h k =
    (k.0, subst (λ (w : PolicyFileFault). IsNoPolicyIn (files name) w) (sym k.1) h)
no-file files name why (Table given) h k = k
no-file files name why (Normal given) h k = k
no-file files name why (Page given) h k = k

-- what is missing to start from is missing
pub no-start : (files : Files) (names : List (List ℕ)) (extras : List (Kind × List ℕ)) (document : Bool) (fault : CleanFault)
    → HasNoStart files names fault → HasNoPolicy files names extras document fault
no-start files names extras document Usage h = h
no-start files names extras document (NeverKept word) h = absurd h
no-start files names extras document (Unread spelled why) h = h
no-start files names extras document (Table why) h = h
no-start files names extras document (Normal why) h = h
no-start files names extras document (Page why) h = h

-- a policy that names what is never kept
pub no-policy : (files : Files) (names : List (List ℕ)) (extras : List (Kind × List ℕ)) (document : Bool) (policy : Policy)
    (fault : CleanFault) → HasRules files names extras policy → IsRefusedBy (refused document policy) fault
    → HasNoPolicy files names extras document fault
no-policy files names extras document policy Usage has h = h
no-policy files names extras document policy (NeverKept word) has h = record { policy = policy; has = has; is_refused = h }
no-policy files names extras document policy (Unread spelled why) has h = absurd h
no-policy files names extras document policy (Table why) has h = h
no-policy files names extras document policy (Normal why) has h = h
no-policy files names extras document policy (Page why) has h = h

-- why there is no table
pub no-table : (files : Files) (names : List (List ℕ)) (fault : ProgramFault) → HasNoTable files names fault
    → LacksTable files names (table_fault_of fault)
no-table files names program.Usage h = refl
no-table files names (program.Table why) h = h
no-table files names (program.Normal why) h = refl

-- THE PROGRAM

-- what holds of what is held holds of the request
pub wanted-from : (files : Files) (words : List (List ℕ)) (asked : Asked) (policy : Policy) (table : List Row)
    (P : Bool → Policy → List (List ℕ) → List Row → Type 0) → AsksFor words asked
    → HasRules files (named asked.policy) (map extra_of asked.extras.items) policy → refused asked.is_document policy ≡ None
    → IsTable files (named asked.table) table → P asked.is_document policy (map (λ name. name.now) asked.files.items) table
    → Wanted files words (λ request policy table. P request.document policy request.files table)
wanted-from files words asked policy table P asks has allowed there holds =
    let held = asks.held in
    record {
      request = asks.request;
      policy = policy;
      table = table;
      asks = asks.asks;
      has = subst (λ (names : List (List ℕ)). HasRules files names asks.request.extras policy) held.policy
          (subst (λ (extras : List (Kind × List ℕ)). HasRules files (named asked.policy) extras policy) held.extras has);
      allowed = ap (λ (document : Bool). refused document policy) (sym held.document) ∙ allowed;
      named = subst (λ names. IsTable files names table) held.table there;
      holds = subst (λ document. P document policy asks.request.files table) held.document
          (subst (λ names. P asked.is_document policy names table) held.files holds);
    }

-- the words ask for a policy that there isn't
pub refused-from : (files : Files) (words : List (List ℕ)) (asked : Asked) (fault : CleanFault) → AsksFor words asked
    → HasNoPolicy files (named asked.policy) (map extra_of asked.extras.items) asked.is_document fault → IsRefused files words fault
refused-from files words asked Usage asks h = absurd h
refused-from files words asked (NeverKept word) asks h = record {
  request = asks.request;
  asks = asks.asks;
  holds = subst (λ (names : List (List ℕ)). NamesNeverKept files names asks.request.extras asks.request.document word) asks.held.policy
      (subst (λ (extras : List (Kind × List ℕ)). NamesNeverKept files (named asked.policy) extras asks.request.document word)
      asks.held.extras
      (subst (λ (document : Bool). NamesNeverKept files (named asked.policy) (map extra_of asked.extras.items) document word)
      asks.held.document h));
}
refused-from files words asked (Unread spelled why) asks h = record {
  request = asks.request;
  asks = asks.asks;
  holds = subst (λ (names : List (List ℕ)). LacksPolicy files names spelled why) asks.held.policy h;
}
refused-from files words asked (Table why) asks h = absurd h
refused-from files words asked (Normal why) asks h = h
refused-from files words asked (Page why) asks h = h

-- the words ask for a table that there isn't
pub tableless-from : (files : Files) (words : List (List ℕ)) (asked : Asked) (fault : CleanFault) → AsksFor words asked
    → LacksTable files (named asked.table) fault → IsRefused files words fault
tableless-from files words asked Usage asks h = absurd h
tableless-from files words asked (NeverKept word) asks h = absurd h
tableless-from files words asked (Unread spelled why) asks h = absurd h
tableless-from files words asked (Table why) asks h = record {
  request = asks.request;
  asks = asks.asks;
  holds = subst (λ (names : List (List ℕ)). LacksTable files names (Table why)) asks.held.table h;
}
tableless-from files words asked (Normal why) asks h = h
tableless-from files words asked (Page why) asks h = h
