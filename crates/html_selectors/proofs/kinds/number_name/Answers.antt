use Rattle.std.proofs.Common.{◌≡◌, ℕ, List, Some, subst, sym}
use Rattle.std.specs.BTreeMap.{get}
use Rattle.html_selectors.specs.Kinds.{AreNotes, Key, key_cmp, key_of}
use Rattle.html_selectors.proofs.Numbering.{noted-number, noted-table, notes-kept, table-self}
use Rattle.html_selectors.proofs.kinds.number_name.Goals as goal

pub returns-then-before-gt0-clause-number : goal.returns-then-before-gt0-clause-number
returns-then-before-gt0-clause-number c =
    let look = get key_cmp c.args.table.now in
    noted-number look (key_of c.args.name.now) c.noted-before.result c.args.next
    (c.noted-before.ensures look (subst (λ (l : List ℕ). AreNotes l look) (sym c.as_slice.ensures.value) c.requires)) c.if-before-gt0.true

pub returns-then-before-gt0-clause-table : goal.returns-then-before-gt0-clause-table
returns-then-before-gt0-clause-table c =
    let look = get key_cmp c.args.table.now in
    noted-table look (key_of c.args.name.now) c.noted-before.result
    (c.noted-before.ensures look (subst (λ (l : List ℕ). AreNotes l look) (sym c.as_slice.ensures.value) c.requires)) c.if-before-gt0.true

pub returns-clause-notes : goal.returns-clause-notes
returns-clause-notes c =
    let look = get key_cmp c.args.table.now in
    let look' = get key_cmp c.number_of.new.table in
    let key = c.in_ok-key.key in
    let number = c.in_ok-number.number in
    c.note.ensures look'
    (notes-kept c.args.notes.now.items look look' key number c.args.next c.requires
    c.in_ok-number.ensures.number c.in_ok-number.ensures.table)
    (subst (λ (q : Key). look' q ≡ Some number) c.in_ok-key.ensures.ok
    (table-self look' key number (look key) (c.in_ok-number.ensures.table key)))
