-- Writing within bounds.
use Rattle.std.proofs.Common.{◌≡◌, ◌∙◌, ℕ, Bool, true, List, [], ◌∷◌, Option, None, Some, Result, Ok, ap, length}
use Rattle.std.proofs.Common.{refl, subst, sym}
use Rattle.std.specs.Prelude.{IfOk, cond, encode_utf8_all, nat_lt}
use Rattle.std.specs.Io.KnownBytes.{append_known}
use Rattle.markup.specs.Calls.{Call, calls_of, run}
use Rattle.markup.specs.Trees.{Trees}
use Rattle.html_serialize.specs.Puts.{Broke, WriterView}
use Rattle.html_clean.specs.Bounds.{NamesBound, PutsOrNot, WritesWithin, all_measured, beyond, beyond_measure, bytes_of, measure_of}
use Rattle.html_clean.specs.Bounds.{measured, measuring, nothing_measured, or_bytes}
use Rattle.html_clean.specs.Calls.{filtered}
use Rattle.html_clean.specs.Cleaned.{cleaned, pieces_of}
use Rattle.html_clean.specs.Counts.{counts_of}
use Rattle.html_clean.specs.Pieces.{Piece, written_pieces}
use Rattle.html_clean.specs.Written.{IsLeft, WritesClean}
use Rattle.html_clean.specs.declared.bounding.Bound.{Bound}
use Rattle.html_clean.specs.declared.bounding.Bound.TheVariants.{Bytes}
use Rattle.html_clean.specs.declared.bounding.BoundedFault.{BoundedFault}
use Rattle.html_clean.specs.declared.bounding.Bounds.{Bounds}
use Rattle.html_clean.specs.declared.bounding.Measurer.{Measurer}
use Rattle.html_clean.specs.declared.counts.Cleaned.{Cleaned}
use Rattle.html_clean.specs.declared.policy.Policy.{Policy}
use Rattle.html_clean.proofs.Calls.{all-filtered}
use Rattle.html_clean.proofs.Kept.{all-kept}
use Rattle.html_clean.proofs.Pieces.{pieces-balanced, pieces-kept}

-- a walk of calls measures them
pub ran-measured : (calls : List Call) (old new : Measurer) → run measuring old calls ≡ Ok new → new ≡ all_measured old calls
ran-measured [] old new h = cc
ran-measured (call ∷ calls) old new h = ran-measured calls (measured old call) new h

-- what was measured of the calls that are passed on is the measure of what is left
pub measure-is : (policy : Policy) (trees : Trees) (calls : List Call) (m : Measurer) → calls ≡ calls_of trees
    → m ≡ all_measured nothing_measured (filtered policy [] true calls) → m ≡ measure_of policy trees
measure-is policy trees calls m is e = e ∙ ap (all_measured nothing_measured) (ap (filtered policy [] true) is ∙ all-filtered policy trees)

-- the pieces of what is left
pub pieces-left : (policy : Policy) (trees : Trees) → IsLeft policy trees (pieces_of (cleaned policy trees))
pieces-left policy trees =
    let left = cleaned policy trees in
    record {
      are = refl;
      kept = pieces-kept policy left (all-kept policy trees) [] refl;
      balanced = pieces-balanced left [] [];
    }

-- what an answer says, by the first bound that is passed, what was written, and what was counted
pub within : (bounds : Bounds) (policy : Policy) (trees : Trees) (old new : WriterView) (result : Result Cleaned BoundedFault)
    → NamesBound (beyond bounds policy trees) result → PutsOrNot old (bytes_of policy trees) result new
    → IfOk result (λ counts. counts ≡ counts_of policy trees) → WritesWithin bounds policy trees old result new
within bounds policy trees old new result bound writes counts = record {
  pieces = pieces_of (cleaned policy trees);
  left = pieces-left policy trees;
  bound = bound;
  writes = writes;
  counts = counts;
}

module _ (bounds : Bounds) (policy : Policy) (trees : Trees) (m : Measurer) (m_is : m ≡ measure_of policy trees) where
  pub too-much : (bound : Bound) → beyond_measure bounds m ≡ Some bound → beyond bounds policy trees ≡ Some bound
  unfolding beyond
  too-much bound h = ap (λ (o : Option Bound). or_bytes o bounds.bytes (length (bytes_of policy trees)))
      (ap (beyond_measure bounds) (sym m_is) ∙ h)

  pub by-bytes : (bytes : List ℕ) (b : Bool) → beyond_measure bounds m ≡ None → bytes ≡ bytes_of policy trees
      → nat_lt bounds.bytes (length bytes) ≡ b → beyond bounds policy trees ≡ cond b (Some Bytes) None
  unfolding beyond
  by-bytes bytes b h is long = ap (λ (o : Option Bound). or_bytes o bounds.bytes (length (bytes_of policy trees)))
      (ap (beyond_measure bounds) (sym m_is) ∙ h)
      ∙ (ap (λ (bs : List ℕ). cond (nat_lt bounds.bytes (length bs)) (Some Bytes) None) (sym is)
      ∙ ap (λ (b : Bool). cond b (Some Bytes) None) long)

some-is : (a b : List ℕ) → Some a ≡ Some b → a ≡ b
some-is a b h = cc

-- all that was written to who had nothing
pub all-written : (policy : Policy) (trees : Trees) (old new : WriterView) (counts : Cleaned) (bytes : List ℕ)
    → WritesClean policy trees old (Ok counts) new → old.written ≡ Some [] → new.written ≡ Some bytes → bytes ≡ bytes_of policy trees
all-written policy trees old new counts bytes wrote none told =
    some-is bytes (bytes_of policy trees) (sym told ∙ (ap (λ (t : WriterView). t.written) wrote.writes
    ∙ (ap (λ (o : Option (List ℕ)). append_known o (encode_utf8_all (written_pieces wrote.pieces))) none
    ∙ ap (λ (pieces : List Piece). Some (encode_utf8_all (written_pieces pieces))) wrote.left.are)))

-- a write of the same bytes that failed
pub broke-same : (old new : WriterView) (a b : List ℕ) → a ≡ b → Broke old a new → Broke old b new
broke-same old new a b same h = subst (λ (bytes : List ℕ). Broke old bytes new) same h
