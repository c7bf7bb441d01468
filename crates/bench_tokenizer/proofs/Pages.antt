-- Pages that are read in pieces.
use Rattle.std.proofs.Common.{◌≡◌, ◌∙◌, ℕ, ◌+◌, ◌==◌, ◌≤◌, Bool, true, List, [], ◌++◌, length, Ok, sym, ap, subst, arith}
use Rattle.std.specs.Prelude.{min}
use Rattle.std.specs.Str.{chars}
use Rattle.std.proofs.lemmas.List.{nil_from_length}
use Rattle.std.proofs.lemmas.Bool.{eqb-true}
use Rattle.std.proofs.lemmas.Str.{chars-nil}
use Rattle.html_tokenizer.specs.Calls.{EndGives, owed_for_text, refusal}
use Rattle.html_tokenizer.specs.Steps.{and_more}
use Rattle.html_tokenizer.specs.Steps as steps
use Rattle.html_tokenizer.specs.declared.tokenizer.Tokenizer.{Tokenizer}
use Rattle.html_tokenizer.proofs.Errors.Rises.{more-sum}
use Rattle.html_tokens.specs.Notes.{errors_of, was_quiet}
use Rattle.html_tokens.specs.Table.{Row}
use Rattle.bench_tokenizer.specs.Counts.{counted_by, counting}
use Rattle.bench_tokenizer.specs.Readings.{Begins, CountsPage, HasRead, IsCounted, Reads, ReadsPage, noted, owed_after}
use Rattle.bench_tokenizer.specs.Readings.{page_owes, page_reading, to_come}
use Rattle.bench_tokenizer.specs.declared.counts.Counts.{Counts}

-- a text without a byte is empty
pub no-bytes : (rest : List ℕ) (b : Bool) → b ≡ (length rest == 0) → b ≡ true → rest ≡ []
no-bytes rest b e t = nil_from_length rest (eqb-true (length rest) 0 (sym e ∙ t))

-- where errors were told for faulty items and for single characters, one was told for each faulty item
told-fewer : (before rise own n : ℕ) → min (before + (rise + own)) 0xffff_ffff_ffff_ffff ≤ n → min (before + rise) 0xffff_ffff_ffff_ffff ≤ n
told-fewer before rise own n h = omega arith

-- where an error was told for each faulty item, and then one for each further one, one was told for each of them all
told-all : (before rise m n : ℕ) → min before 0xffff_ffff_ffff_ffff ≤ m → min (m + rise) 0xffff_ffff_ffff_ffff ≤ n
    → min (and_more rise before) 0xffff_ffff_ffff_ffff ≤ n
told-all before rise m n h k = let sum = more-sum rise before in omega (arith, sum, h, k)

still-told : (owed m n : ℕ) → min owed 0xffff_ffff_ffff_ffff ≤ m → m ≤ n → min owed 0xffff_ffff_ffff_ffff ≤ n
still-told owed m n h k = omega arith

-- a tokenizer that begins has read nothing of a page
pub begun : (table : List Row) (page : List ℕ) (k : Tokenizer Counts) → Begins table k → HasRead table page k page
begun table page k begins = record { owed = steps.nothing_owed; told = omega arith; same = sym (begins.same page); takes = begins.takes }

-- after a text that a tokenizer read, what follows that text is the rest of the page
read-on : (table : List Row) (page text behind : List ℕ) (old new : Tokenizer Counts) → HasRead table page old
    (text ++ behind) → Reads old new text → HasRead table page new behind
read-on table page text behind old new read reads = record {
  owed = owed_after reads.owed read.owed;
  told = told-all read.owed.faults reads.owed.faults old.sink.errors new.sink.errors read.told
      (told-fewer old.sink.errors reads.owed.faults (owed_for_text old.stream.exact_errors reads.came).faults
      new.sink.errors reads.rises.enough);
  same = read.same ∙ reads.same read.owed behind;
  takes = reads.takes;
}

-- where nothing of a page is left and the end is told, the numbers are those of the page
whole-page : (table : List Row) (k new : Tokenizer Counts) (page : List ℕ) (rest : List ℕ) → HasRead table page k (chars rest) → rest ≡ []
    → EndGives counting (refusal k.stream) k new (Ok tt) → IsCounted table page new.sink
whole-page table k new page rest read none gives =
    let has_ended = rw read.takes.begun at gives in
    let owed = owed_after has_ended.owed read.owed in
    let told = still-told (and_more has_ended.owed.faults read.owed.faults) has_ended.told.errors new.sink.errors
    (told-all read.owed.faults has_ended.owed.faults k.sink.errors has_ended.told.errors read.told
    has_ended.rises.enough) has_ended.kept in
    let whole : page_reading table page ≡ Ok (counted_by new.sink, noted owed) =
    read.same ∙ ap (λ r. to_come k read.owed (chars r)) none ∙ ap (to_come k read.owed) chars-nil ∙ has_ended.same (noted read.owed) in
    let is_owed : errors_of (page_reading table page) ≡ owed.faults = ap errors_of whole in
    let is_heard : was_quiet (page_reading table page) ≡ owed.is_quiet = ap was_quiet whole in
    record {
      read = whole ∙ (ap (λ n. Ok
          (counted_by new.sink, record { pauses = []; errors = n; is_quiet = owed.is_quiet })) (sym is_owed)
          ∙ ap (λ q. Ok (counted_by new.sink, record { pauses = []; errors = page_owes table page; is_quiet = q })) (sym is_heard));
      told = subst (λ n. min n 0xffff_ffff_ffff_ffff ≤ new.sink.errors) (sym is_owed) told;
    }

-- the same of whatever page it is
pub read-further : (page text behind : List ℕ) (first old new : Tokenizer Counts) → ReadsPage first old page
    (text ++ behind) → Reads old new text → ReadsPage first new page behind
read-further page text behind first old new read reads table h = read-on table page text behind old new (read table h) reads

pub page-counted : (first k new : Tokenizer Counts) (page : List ℕ) (rest : List ℕ) → ReadsPage first k page (chars rest) → rest ≡ []
    → EndGives counting (refusal k.stream) k new (Ok tt) → CountsPage first new page
page-counted first k new page rest read none gives table h = whole-page table k new page rest (read table h) none gives
