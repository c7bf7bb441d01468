-- A character of the input, as it comes.
use Rattle.std.proofs.Common.{◌≡◌, ◌∙◌, ℕ, Bool, false, List, [], ◌∷◌, ◌++◌, Option, Some, None, refl, sym, ap, arith}
use Rattle.std.proofs.Common.{append_assoc, length-append}
use Rattle.std.specs.Prelude.{IfNone}
use Rattle.html_queue.specs.Queue.{Queue, Takes}
use Rattle.html_tokens.specs.NormalText.{newlines_after, without_mark}
use Rattle.html_tokenizer_parts.specs.declared.stream.Stream.{Stream}
use Rattle.html_tokenizer_parts.specs.Input.{coming_in, newline_for, last_of, before, Vanishes, Nexts, MarkPassed, NewlineMade}
use Rattle.html_tokenizer_parts.proofs.InputRuns.{without_none}

-- characters were taken, and then more
pub takes-more : (a b : List ℕ) (from via to : Queue) → Takes a from via → Takes b via to → Takes (a ++ b) from to
takes-more a b from via to h k = record {
  split = h.split ∙ (ap (λ t. a ++ t) k.split ∙ sym (append_assoc a b to.characters));
  counted = omega (arith, h.counted, k.counted, length-append a b);
}

-- the last character of two texts, of which the first is not empty
last-joined : (c : ℕ) (a b : List ℕ) → last_of (c ∷ a ++ b) ≡ last_of (last_of (c ∷ a) ∷ b)
last-joined c [] b = refl
last-joined c (d ∷ a) b = last-joined d a b

-- where nothing else was learnt of the input than that no byte order mark comes
marked : (old mid : Stream) → mid ≡ record old { discard_bom = false }
    → mid ≡ record old { ignore_lf = mid.ignore_lf; discard_bom = mid.discard_bom }
marked old mid e = rw e refl

module _ (old mid new : Stream) (start from via to : Queue) (c : ℕ) (first : Takes (c ∷ []) start from) where
  -- the byte order mark was all that was left
  pub next-vanishes : MarkPassed old mid from via c None → via.characters ≡ [] → Vanishes old mid start via
  next-vanishes h empty = record {
    taken = c ∷ h.more;
    takes = takes-more (c ∷ []) h.more start from via first h.takes;
    all = λ t. rw h.changed (ap (newlines_after old.ignore_lf) (h.front t ∙ sym (without_none t)));
    changed = marked old mid h.changed;
    empty = empty;
  }

  module _ (mark : ℕ) (h : MarkPassed old mid from via c (Some mark)) where
    whole : (r : Option ℕ) (k : NewlineMade mid new via to mark r) → Takes (c ∷ h.more ++ k.more) start to
    whole r k = takes-more (c ∷ []) (h.more ++ k.more) start from to first (takes-more h.more k.more from via to h.takes k.takes)

    front : (r : Option ℕ) (k : NewlineMade mid new via to mark r) (t : List ℕ)
        → coming_in old ((c ∷ h.more ++ k.more) ++ t) ≡ before r (coming_in new t)
    front r k t =
        ap (λ u. newlines_after old.ignore_lf (without_mark old.discard_bom (c ∷ u))) (append_assoc h.more k.more t)
        ∙ ap (newlines_after old.ignore_lf) (h.front (k.more ++ t))
        ∙ ap (λ s. newlines_after s.ignore_lf (mark ∷ k.more ++ t)) (sym h.changed)
        ∙ k.front t
        ∙ ap (λ u. before r (newlines_after new.ignore_lf u)) (sym (without_none t))
        ∙ ap (λ s. before r (newlines_after new.ignore_lf (without_mark s.discard_bom t))) (sym h.changed)
        ∙ ap (λ s. before r (newlines_after new.ignore_lf (without_mark s.discard_bom t))) (sym k.changed)

    changes : (r : Option ℕ) (k : NewlineMade mid new via to mark r) → new ≡ record old {
      ignore_lf = new.ignore_lf;
      discard_bom = new.discard_bom;
    }
    changes r k = k.changed ∙ ap {A = Stream} (λ s. record s { ignore_lf = new.ignore_lf }) h.changed
        ∙ ap {A = Bool} (λ b. record old { ignore_lf = new.ignore_lf; discard_bom = b })
        (sym (ap (λ s. s.discard_bom) k.changed ∙ ap (λ s. s.discard_bom) h.changed))

    -- what came after the byte order mark is made a line feed, if it ends a line
    pub next-comes : (r : Option ℕ) → NewlineMade mid new via to mark r → IfNone r (to.characters ≡ []) → Nexts old new start to r
    next-comes None k empty = record {
      taken = c ∷ h.more ++ k.more;
      takes = whole None k;
      all = front None k;
      changed = changes None k;
      empty = empty;
    }
    next-comes (Some d) k empty = record {
      taken = c ∷ h.more ++ k.more;
      takes = whole (Some d) k;
      front = front (Some d) k;
      changed = changes (Some d) k;
      filled = omega arith;
      last = ap newline_for (last-joined c h.more k.more) ∙ ap (λ x. newline_for (last_of (x ∷ k.more))) h.last ∙ k.last;
    }
