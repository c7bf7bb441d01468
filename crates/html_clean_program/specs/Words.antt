-- What the words after the command ask for.
use Rattle.std.specs.Prelude.{◌≡◌, ℕ, nat_eq, Bool, true, false, cond, List, [], ◌∷◌, ◌++◌, map, Option, Some, None, codes, option_map}
use Rattle.std.specs.Str.{bytes_eq}
use Rattle.html_normal_program.specs.Program.{named}
use Rattle.html_clean_program.specs.declared.words.Asked.{Asked}
use Rattle.html_clean_program.specs.declared.words.Extra.{Extra}
use Rattle.html_clean_program.specs.declared.words.Kind.{Kind}
use Rattle.html_clean_program.specs.declared.words.Kind.TheVariants.{Element, Attribute, Beginning, Addition, Scheme}
use Rattle.html_clean_program.specs.declared.words.Takes.{Takes}
use Rattle.html_clean_program.specs.declared.words.Takes.TheVariants as option

-- What is asked for: the file with the policy, if one is named, what the policy is to keep or to add beside what it says, each with its
-- word, whether pages are cleaned as whole documents, the file with the table of references, if one is named, the file to write to, if one
-- is named, and the files with the pages.
pub record Request : Type 0 where
  pub policy : List (List ℕ)
  pub extras : List (Kind × List ℕ)
  pub document : Bool
  pub table : List (List ℕ)
  pub output : Option (List ℕ)
  pub files : List (List ℕ)

abbrev pub no_request : Request
no_request = record {
  policy = [];
  extras = [];
  document = false;
  table = [];
  output = None;
  files = [];
}

-- after an option and its word; of several files with a policy, with a table, or to write to, the last counts
abbrev pub taken : Takes → List ℕ → Request → Request
taken (option.Extra kind) word request = record request { extras = request.extras ++ (kind, word) ∷ [] }
taken option.Policy word request = record request { policy = word ∷ [] }
taken option.Table word request = record request { table = word ∷ [] }
taken option.Output word request = record request { output = Some word }

-- an option that takes the next word
abbrev pub option_of : List ℕ → Option Takes
option_of word = cond (bytes_eq word (codes "--policy")) (Some option.Policy)
    (cond (bytes_eq word (codes "--element")) (Some (option.Extra Element))
    (cond (bytes_eq word (codes "--attribute")) (Some (option.Extra Attribute))
    (cond (bytes_eq word (codes "--beginning")) (Some (option.Extra Beginning))
    (cond (bytes_eq word (codes "--add")) (Some (option.Extra Addition))
    (cond (bytes_eq word (codes "--scheme")) (Some (option.Extra Scheme))
    (cond (bytes_eq word (codes "--table")) (Some option.Table)
    (cond (bytes_eq word (codes "--output")) (Some option.Output)
    (cond (bytes_eq word (codes "-o")) (Some option.Output) None))))))))

abbrev pub starts_with_hyphen : List ℕ → Bool
starts_with_hyphen [] = false
starts_with_hyphen (c ∷ cs) = nat_eq c 45

abbrev pub if_option : Option Takes → (Takes → Option Request) → Option Request
if_option None then = None
if_option (Some takes) then = then takes

-- What words ask for after those before them, the last of which may be an option that takes the next one. A word that begins with a
-- hyphen is an option, and any other the name of a file.
abbrev pub asked_by : Option Takes → Request → List (List ℕ) → Option Request
asked_by None request [] = Some request
asked_by (Some takes) request [] = None
asked_by (Some takes) request (word ∷ words) = asked_by None (taken takes word request) words
asked_by None request (word ∷ words) =
    cond (bytes_eq word (codes "--document")) (asked_by None (record request { document = true }) words)
    (cond (starts_with_hyphen word) (if_option (option_of word) (λ takes. asked_by (Some takes) request words))
    (asked_by None (record request { files = request.files ++ word ∷ [] }) words))

-- the file to write to that words name, if they ask for something that can be done
abbrev pub output_in : Option Request → Option (List ℕ)
output_in None = None
output_in (Some request) = request.output

abbrev pub output_named : List (List ℕ) → Option (List ℕ)
output_named words = output_in (asked_by None no_request words)

abbrev pub extra_of : Extra → Kind × List ℕ
extra_of extra = (extra.kind, extra.word.now)

-- what is held of a request
pub record IsAsked (asked : Asked) (request : Request) : Type 0 where
  pub policy : named asked.policy ≡ request.policy
  pub extras : map extra_of asked.extras.items ≡ request.extras
  pub document : asked.is_document ≡ request.document
  pub table : named asked.table ≡ request.table
  pub output : option_map (λ name. name.now) asked.output ≡ request.output
  pub files : map (λ name. name.now) asked.files.items ≡ request.files

-- words ask for what is held
pub record AsksFor (words : List (List ℕ)) (asked : Asked) : Type 0 where
  pub request : Request
  pub asks : asked_by None no_request words ≡ Some request
  pub held : IsAsked asked request
