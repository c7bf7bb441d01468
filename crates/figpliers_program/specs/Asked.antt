-- What the words after the program's name ask for, by what clap makes of them.
use Rattle.std.specs.Prelude.{◌≡◌, ◌&&◌, ◌||◌, ◌==◌, ℕ, Bool, true, false, not, List, [], ◌∷◌, map, Option, Some, None, codes}
use Rattle.std.specs.Prelude.{count_by, is_some, nat_le, option_map, slice_get, unwrap_or}
use Rattle.std.specs.Char.{is_ascii_alphabetic, is_ascii_whitespace, to_ascii_lowercase}
use Rattle.std.specs.List.{list_all}
use Rattle.std.specs.Option.{option_map_or}
use Rattle.std.specs.String.{string_bytes}
use Rattle.clap.specs.Simple.{subcommand_of}
use Rattle.clap.specs.Takes.{is_given}
use Rattle.clap.specs.Walk.{Row, Text, all_of, first_of, one_of}
use Rattle.figpliers.specs.EncodingLabels.{label_encoding}
use Rattle.figpliers_program.specs.CommandLine.{figpliers}
use Rattle.figpliers_program.specs.declared.command.Asked.{Asked}
use Rattle.figpliers_program.specs.declared.command.DocumentJob.{DocumentJob}
use Rattle.figpliers_program.specs.declared.command.DocumentJob.TheVariants.{Check, Links, Markdown, Normal, Select, Tree}
use Rattle.figpliers_program.specs.declared.command.DocumentJob.TheVariants as job
use Rattle.figpliers_program.specs.declared.command.Job.{Job}
use Rattle.figpliers_program.specs.declared.command.Job.TheVariants.{OfDocument, OfErrors, OfFragment}
use Rattle.figpliers_program.specs.declared.command.Reading.{Reading}
use Rattle.figpliers_program.specs.declared.command.Reading.TheVariants.{Found, Lossy, Utf8}
use Rattle.html_listings.specs.declared.listing.Listing.{Listing}
use Rattle.html_listings.specs.declared.selected.Show.{Show}
use Rattle.html_listings.specs.declared.selected.Show.TheVariants.{Attribute, Count, Html, Json}
use Rattle.html_listings.specs.declared.selected.Show.TheVariants as show

-- OPTIONS, by the rows that clap found for a command

-- whether an option without a value is used
abbrev pub IsSet : List Row → Text → Bool → Type 0
IsSet rows name set = (one_of name rows ≡ None → set ≡ false) × (one_of name rows ≡ Some (codes "true") → set ≡ true)
    × (one_of name rows ≡ Some (codes "false") → set ≡ false)

-- how pages are read
abbrev pub IsReading : List Row → Reading → Type 0
IsReading rows Utf8 = IsSet rows (codes "utf-8") true
IsReading rows Lossy = IsSet rows (codes "utf-8") false × IsSet rows (codes "lossy") true
IsReading rows (Found label) = IsSet rows (codes "utf-8") false × IsSet rows (codes "lossy") false
    × (option_map string_bytes label ≡ first_of (codes "encoding") rows)

-- what is printed of elements
abbrev pub IsShow : List Row → Show → Type 0
IsShow rows show.Text = IsSet rows (codes "text") true
IsShow rows Count = IsSet rows (codes "text") false × IsSet rows (codes "count") true
IsShow rows Json = IsSet rows (codes "text") false × IsSet rows (codes "count") false × IsSet rows (codes "json") true
IsShow rows (Attribute name) = IsSet rows (codes "text") false × IsSet rows (codes "count") false × IsSet rows (codes "json") false
    × (first_of (codes "attr") rows ≡ Some (string_bytes name))
IsShow rows Html = IsSet rows (codes "text") false × IsSet rows (codes "count") false × IsSet rows (codes "json") false
    × (first_of (codes "attr") rows ≡ None)

-- whether the names of files are printed, where that is said
abbrev pub IsNaming : List Row → Option Bool → Type 0
IsNaming rows (Some true) = IsSet rows (codes "with-filename") true
IsNaming rows (Some false) = IsSet rows (codes "with-filename") false × IsSet rows (codes "no-filename") true
IsNaming rows None = IsSet rows (codes "with-filename") false × IsSet rows (codes "no-filename") false

-- how links are printed
pub record IsListing (rows : List Row) (listing : Listing) : Type 0 where
  pub base : option_map string_bytes listing.base ≡ first_of (codes "base") rows
  pub anchors : IsSet rows (codes "anchors") listing.anchors
  pub kinds : IsSet rows (codes "kind") listing.kinds
  pub json : IsSet rows (codes "json") listing.json
  pub names : IsNaming rows listing.names

-- COMMANDS

-- the value of an option, in lower case
abbrev pub lowered_value : Text → List Row → Option Text
lowered_value name rows = option_map (map to_ascii_lowercase) (first_of name rows)

-- what a command of that name does with the document of each page
abbrev pub IsDocumentJob : Text → List Row → DocumentJob → Type 0
IsDocumentJob name rows Tree = (name ≡ codes "tree") × (lowered_value (codes "fragment") rows ≡ None)
IsDocumentJob name rows (Links listing) = (name ≡ codes "links") × IsListing rows listing
IsDocumentJob name rows Markdown = name ≡ codes "markdown"
IsDocumentJob name rows job.Text = name ≡ codes "text"
IsDocumentJob name rows Check = name ≡ codes "check"
IsDocumentJob name rows Normal = name ≡ codes "normal"
IsDocumentJob name rows (Select selector show) = (name ≡ codes "select")
    × (string_bytes selector ≡ unwrap_or (first_of (codes "selector") rows) []) × IsShow rows show

-- what a command of that name does
abbrev pub IsJob : Text → List Row → Job → Type 0
IsJob name rows OfErrors = name ≡ codes "errors"
IsJob name rows (OfFragment element) = (name ≡ codes "tree") × (Some (string_bytes element) ≡ lowered_value (codes "fragment") rows)
IsJob name rows (OfDocument job) = IsDocumentJob name rows job

-- a command with what it found
pub record IsAsked (name : Text) (rows : List Row) (asked : Asked) : Type 0 where
  pub job : IsJob name rows asked.job
  pub reading : IsReading rows asked.reading
  pub output : option_map string_bytes asked.output ≡ first_of (codes "output") rows
  pub files : map string_bytes asked.files.items ≡ unwrap_or (all_of (codes "files") rows) []

-- OPTIONS THAT EXCLUDE EACH OTHER

-- at most one of these options is used
abbrev pub are_apart : List Row → List Text → Bool
are_apart rows names = nat_le (count_by (λ name. is_given name rows) names) 1

-- options that exclude each other: those that say how pages are read, what is printed of elements, of links, and whether names are
abbrev pub reading_options : List Text
reading_options = codes "encoding" ∷ codes "utf-8" ∷ codes "lossy" ∷ []

abbrev pub element_options : List Text
element_options = codes "text" ∷ codes "attr" ∷ codes "count" ∷ codes "json" ∷ []

abbrev pub link_options : List Text
link_options = codes "kind" ∷ codes "json" ∷ []

abbrev pub naming_options : List Text
naming_options = codes "with-filename" ∷ codes "no-filename" ∷ []

abbrev pub has_conflict : List Row → Bool
has_conflict rows = not (are_apart rows reading_options && (are_apart rows element_options
    && (are_apart rows link_options && are_apart rows naming_options)))

-- the same of the command that clap entered
abbrev pub has_conflict_in : Option (Text × List Row) → Bool
has_conflict_in None = false
has_conflict_in (Some (name, rows)) = has_conflict rows

-- VALUES

-- a label that is given is none of an encoding
abbrev pub has_unknown_label : Reading → Bool
has_unknown_label (Found (Some label)) = not (is_some (label_encoding (string_bytes label)))
has_unknown_label reading = false

-- a character ends the name of a tag (HTML Standard, section 13.2.5.8)
abbrev pub ends_name : ℕ → Bool
ends_name byte = is_ascii_whitespace byte || (byte == 47 || (byte == 62 || byte == 0))

abbrev pub begins_with_letter : Text → Bool
begins_with_letter text = option_map_or is_ascii_alphabetic (slice_get text 0) false

-- a tag may have that name: it begins with a letter, and no character ends it
abbrev pub is_name : Text → Bool
is_name text = begins_with_letter text && list_all (λ byte. not (ends_name byte)) text

-- a fragment is to be read in an element of a name that none has
abbrev pub has_no_name : Job → Bool
has_no_name (OfFragment element) = not (is_name (string_bytes element))
has_no_name job = false

-- WORDS

-- the command that clap entered, with what it found
abbrev pub IsCommandOf : Option (Text × List Row) → Asked → Type 0
IsCommandOf None asked = ⊥
IsCommandOf (Some (name, rows)) asked = IsAsked name rows asked

-- The words, of which the first is the program's name, name a command, and this is what it found. No two of the options that are used
-- exclude each other, a label that is given is that of an encoding, and an element that is named has a name of elements.
pub record AsksFor (words : List Text) (asked : Asked) : Type 0 where
  pub is : IsCommandOf (subcommand_of figpliers words) asked
  pub apart : has_conflict_in (subcommand_of figpliers words) ≡ false
  pub label : has_unknown_label asked.reading ≡ false
  pub named : has_no_name asked.job ≡ false
