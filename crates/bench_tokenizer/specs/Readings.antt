-- What a tokenizer over a counting sink makes of a page.
use Rattle.std.specs.Prelude.{◌≡◌, ◌≤◌, ℕ, min, true, false, ◌&&◌, List, [], ◌++◌, None, Result, Ok}
use Rattle.html_tokens.specs.Notes.{Notes, no_notes, noted_reading, errors_of, was_quiet}
use Rattle.html_tokens.specs.NormalText.{normal_text}
use Rattle.html_tokens.specs.Reading.{first_stand}
use Rattle.html_tokens.specs.Sink.{Refusal}
use Rattle.html_tokens.specs.Table.{Row}
use Rattle.html_tokenizer.specs.Calls.{IsReady, refusal, owed_for_text}
use Rattle.html_tokenizer.specs.Calls as calls
use Rattle.html_tokenizer.specs.Steps.{Owed, Rises, together, and_more}
use Rattle.html_tokenizer.specs.Steps as steps
use Rattle.html_tokenizer.specs.declared.tokenizer.Tokenizer.{Tokenizer}
use Rattle.bench_tokenizer.specs.Counts.{Counted, counted_by, counting, nothing, step, ended, asks_cdata, errors, is_quiet}
use Rattle.bench_tokenizer.specs.declared.counts.Counts.{Counts}

-- what the definitions make of a whole page, with this table of references
abbrev pub page_reading : List Row → List ℕ → Result (Counted × Notes ℕ) (Refusal × ℕ)
page_reading table page = noted_reading step is_quiet asks_cdata ended table (first_stand None None) 0
    (nothing false, no_notes) (normal_text true page)

-- how many errors a page owes
abbrev pub page_owes : List Row → List ℕ → ℕ
page_owes table page = errors_of (page_reading table page)

-- What is counted of a page is what the definitions make of it: no pause, and an error at least for each faulty item, up to u64::MAX.
pub record IsCounted (table : List Row) (page : List ℕ) (counts : Counts) : Type 0 where
  pub read : page_reading table page ≡ Ok (
    counted_by counts,
    record {
      pauses = [];
      errors = page_owes table page;
      is_quiet = was_quiet (page_reading table page);
    },
  )
  pub told : min (page_owes table page) 0xffff_ffff_ffff_ffff ≤ counts.errors

-- what is owed, noted with no pause
abbrev pub noted : Owed → Notes ℕ
noted owed = record { pauses = []; errors = owed.faults; is_quiet = owed.is_quiet }

-- what is owed, after what was owed before
abbrev pub owed_after : Owed → Owed → Owed
owed_after owed before = record { faults = and_more owed.faults before.faults; is_quiet = owed.is_quiet && before.is_quiet }

-- what a further text makes of the numbers, after what was owed
abbrev pub to_come : Tokenizer Counts → Owed → List ℕ → Result (Counted × Notes ℕ) (Refusal × ℕ)
to_come k owed t = calls.to_come counting k (noted owed) t

-- a tokenizer takes calls
pub record Takes (k : Tokenizer Counts) : Type 0 where
  pub ready : IsReady counting k
  pub begun : refusal k.stream ≡ None

-- A tokenizer read a text, of which these characters came, which owed this: whatever follows, what was to come over the text and that is
-- what is now to come over that.
pub record Reads (old new : Tokenizer Counts) (text : List ℕ) : Type 0 where
  pub owed : Owed
  pub came : List ℕ
  pub rises : Rises errors (together owed (owed_for_text old.stream.exact_errors came)) old.sink new.sink
  pub same : (before : Owed) (t : List ℕ) → to_come old before (text ++ t) ≡ to_come new (owed_after owed before) t
  pub takes : Takes new

-- A page was read up to this rest, and owed this before it.
pub record HasRead (table : List Row) (page : List ℕ) (k : Tokenizer Counts) (rest : List ℕ) : Type 0 where
  pub owed : Owed
  pub told : min owed.faults 0xffff_ffff_ffff_ffff ≤ k.sink.errors
  pub same : page_reading table page ≡ to_come k owed rest
  pub takes : Takes k

-- A tokenizer at the front of its input: what is to come is the reading of all the text.
pub record Begins (table : List Row) (k : Tokenizer Counts) : Type 0 where
  pub same : (t : List ℕ) → to_come k steps.nothing_owed t ≡ page_reading table t
  pub takes : Takes k

-- Of whatever page a tokenizer was to read, another has read all but this rest.
abbrev pub ReadsPage : Tokenizer Counts → Tokenizer Counts → List ℕ → List ℕ → Type 0
ReadsPage old new page rest = (table : List Row) → HasRead table page old page → HasRead table page new rest

-- Whatever page a tokenizer was to read, it is counted.
abbrev pub CountsPage : Tokenizer Counts → Tokenizer Counts → List ℕ → Type 0
CountsPage old new page = (table : List Row) → HasRead table page old page → IsCounted table page new.sink
