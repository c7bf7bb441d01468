-- Tokens and texts, as they are read.
use Rattle.std.proofs.Common.{◌≡◌, ◌∙◌, ℕ, ◌+◌, Bool, true, false, List, [], ◌∷◌, ◌++◌, length}
use Rattle.std.proofs.Common.{refl, sym, ap, arith}
use Rattle.std.proofs.Common.{subst, take, drop, Option, Some, None, Result, Ok, append_assoc}
use Rattle.std.proofs.Common.{true≢false}
use Rattle.std.proofs.Math.Seq.{drop-append_seam, take-append_seam}
use Rattle.std.specs.Prelude.{IfOk, IsOk}
use Rattle.markup.specs.Escape.{escape}
use Rattle.html_rules.specs.Choice.{choose}
use Rattle.html_rules.specs.ForeignContent.{asks_cdata}
use Rattle.html_rules.specs.State.{State, hushed}
use Rattle.html_rules.specs.Step.{answered, ended, is_idle, is_quiet, refusal_of, step, step_by, taken, taken_unless_idle}
use Rattle.html_rules_laws.specs.Usable.{Usable}
use Rattle.html_rules_laws.proofs.ErrorsMonotone.Rises.{taken-hushed}
use Rattle.html_rules_laws.proofs.Progress.UsableTokens.{states-usable, usable-hushed, usable-unhushed}
use Rattle.html_rules_laws.proofs.StepLaws.{tokens-lawful}
use Rattle.html_tokens.specs.Item.{Fault, Item, Stand}
use Rattle.html_tokens.specs.Items.{item}
use Rattle.html_tokens.specs.Laws.{JoinsText, ReadsEscapes}
use Rattle.html_tokens.specs.Reading.{◌>>=◌, erred_by, line_breaks, line_number, next_stand, said}
use Rattle.html_tokens.specs.Sink.{IsReplyTo, Refusal, Reply}
use Rattle.html_tokens.specs.Table.{Row}
use Rattle.html_tokens.specs.declared.replies.TokenSinkResult.TheVariants as reply
use Rattle.html_tokens.specs.declared.token.Token.{Token}
use Rattle.html_tokens.specs.declared.token.Token.TheVariants.{CharacterTokens, CommentToken}
use Rattle.html_tokens.proofs.Readings.{reading-item}
use Rattle.html_tokens.proofs.SinkTexts.{joins-from_laws}
use Rattle.html_tokens.proofs.TextLaws.{line_breaks-append}
use Rattle.html_round_trip.specs.Slices.Forms.{TextPlace, in_text}
use Rattle.html_round_trip.proofs.Slices.Texts.{text-read}
use Rattle.html_faithful.specs.Forms.{is_kept}
use Rattle.html_faithful_documents.specs.Reads.{IsReadTo, Reads, read}
use Rattle.html_faithful_documents.specs.Slices.{IsItem, IsTold, Last, More, Tells}
use Rattle.html_faithful_documents.proofs.StartTags.{not-null}

-- ONE AFTER THE OTHER

pub reads-none : (rows : List Row) (st : Stand) (s : State) → Reads rows st s [] st s
reads-none rows st s usable breaks t ok = record { usable = usable; behind = breaks; is = refl }

pub reads-then : (rows : List Row) (st mid next : Stand) (s m left : State) (a b : List ℕ) → Reads rows st s a mid m
    → Reads rows mid m b next left
    → Reads rows st s (a ++ b) next left
reads-then rows st mid next s m left a b one two usable breaks t ok =
    let shape : (a ++ b) ++ t ≡ a ++ (b ++ t) = append_assoc a b t in
    let first = one usable breaks (b ++ t) (subst (λ u. IsOk (read rows st breaks (hushed s) u)) shape ok) in
    let second = two first.usable first.behind t
    (subst IsOk (ap (read rows st breaks (hushed s)) shape ∙ first.is) ok) in
    record {
      usable = second.usable;
      behind = second.behind;
      is = ap (read rows st breaks (hushed s)) shape ∙ (first.is ∙ second.is);
    }

-- A SLICE

lines-two : (breaks : ℕ) (a b : List ℕ) → (breaks + line_breaks a) + line_breaks b ≡ breaks + line_breaks (a ++ b)
lines-two breaks a b = omega (arith, line_breaks-append a b)

no-fault : (fault : Option Fault) (s : State) → erred_by (λ (f : Fault) s. s) fault s ≡ s
no-fault None s = refl
no-fault (Some fault) s = refl

module _ (rows : List Row) where
  -- what an item makes of a state, by its parts
  abbrev parted : Option Fault → Option Token → ℕ → Stand → ℕ → State → List ℕ → Result State Refusal
  parted fault token len next breaks s t =
      let n = breaks + line_breaks (take len t) in
      said step (λ (f : Fault) s. s) fault token n s >>= λ p. read rows (next_stand next p.1) n p.0 (drop len t)

  by-parts : (i : Item) (token : Option Token) (len : ℕ) (next : Stand) (breaks : ℕ) (s : State) (t : List ℕ) → IsItem i token len next
      → parted i.fault i.token i.len i.next breaks s t ≡ parted i.fault token len next breaks s t
  by-parts i token len next breaks s t h =
      ap (λ o. parted i.fault o i.len i.next breaks s t) h.gives
      ∙ (ap (λ n. parted i.fault token n i.next breaks s t) h.takes ∙ ap (λ st. parted i.fault token len st breaks s t) h.leaves)

  silent-part : (fault : Option Fault) (len : ℕ) (next : Stand) (breaks : ℕ) (s : State) (t : List ℕ)
      → parted fault None len next breaks s t ≡ read rows next (breaks + line_breaks (take len t)) s (drop len t)
  silent-part fault len next breaks s t = ap (λ s. read rows next (breaks + line_breaks (take len t)) s (drop len t)) (no-fault fault s)

  token-part : (fault : Option Fault) (token : Token) (len : ℕ) (next : Stand) (breaks : ℕ) (s : State) (t : List ℕ)
      → parted fault (Some token) len next breaks s t ≡ (step s token (line_number (breaks + line_breaks (take len t)))
      >>= λ p. read rows (next_stand next p.1) (breaks + line_breaks (take len t)) p.0 (drop len t))
  token-part fault token len next breaks s t =
      ap (λ s. step s token (line_number (breaks + line_breaks (take len t)))
      >>= λ p. read rows (next_stand next p.1) (breaks + line_breaks (take len t)) p.0 (drop len t)) (no-fault fault s)

  abbrev told_at : Stand → Token → State → List ℕ → ℕ → Result State Refusal
  told_at next token s t n = step s token (line_number n) >>= λ p. read rows (next_stand next p.1) n p.0 t

  pub told-read : (s : State) (t : List ℕ) (st next : Stand) (slice : List ℕ) (token : Token) (breaks : ℕ)
      → Tells rows (asks_cdata s) t st slice token next
      → read rows st breaks s (slice ++ t) ≡ told_at next token s t (breaks + line_breaks slice)
  told-read s t st next slice token breaks (Last c cs h) =
      let i = item rows (asks_cdata s) st c (cs ++ t) in
      let len = length (c ∷ cs) in
      reading-item step (λ (f : Fault) s. s) asks_cdata ended rows st breaks s c (cs ++ t)
      ∙ (by-parts i (Some token) len next breaks s (c ∷ (cs ++ t)) h
      ∙ (token-part i.fault token len next breaks s (c ∷ (cs ++ t))
      ∙ (rw (take-append_seam cs t, drop-append_seam cs t) refl)))
  told-read s t st next slice token breaks (More mid c cs b h rest) =
      let i = item rows (asks_cdata s) st c (cs ++ (b ++ t)) in
      let len = length (c ∷ cs) in
      ap (read rows st breaks s) (append_assoc (c ∷ cs) b t)
      ∙ (reading-item step (λ (f : Fault) s. s) asks_cdata ended rows st breaks s c (cs ++ (b ++ t))
      ∙ (by-parts i None len mid breaks s (c ∷ (cs ++ (b ++ t))) h
      ∙ (silent-part i.fault len mid breaks s (c ∷ (cs ++ (b ++ t)))
      ∙ (rw (take-append_seam cs (b ++ t), drop-append_seam cs (b ++ t))
      (told-read s t mid next b token (breaks + line_breaks (c ∷ cs)) rest)
      ∙ ap (told_at next token s t) (lines-two breaks (c ∷ cs) b)))))

-- A TOKEN

-- a token that is not refused is taken
taken-by : (o : Option Refusal) (t : Token) (s : State) (f : State × Reply → Result State Refusal) → IsOk (step_by o t s >>= f)
    → step_by o t s ≡ Ok (taken_unless_idle t s)
taken-by None t s f ok = refl
taken-by (Some refusal) t s f ok = absurd (true≢false (sym ok))

not-idle : (b : Bool) (x y : State × Reply) → b ≡ false → choose b (λ _. x) (λ _. y) ≡ y
not-idle b x y e = rw e refl

-- the number of errors before is of no account
hushed-taken : (t : Token) (s : State) → answered (taken t (hushed s)) ≡ answered (taken t s)
hushed-taken t s = ap answered (sym (taken-hushed t s))

pub step-taken : (t : Token) (s : State) (line : ℕ) (f : State × Reply → Result State Refusal) → is_idle t ≡ false
    → IsOk (step (hushed s) t line >>= f) → step (hushed s) t line ≡ Ok (answered (taken t s))
unfolding step
step-taken t s line f idle ok =
    let h = hushed s in
    taken-by (refusal_of t h) t h f ok
    ∙ ap (λ (p : State × Reply). let r : Result (State × Reply) Refusal = Ok p in r)
    (not-idle (is_idle t) (h, reply.Continue) (answered (taken t h)) idle ∙ hushed-taken t s)

pub usable-laws : JoinsText Usable step
usable-laws = joins-from_laws Usable step ended is_quiet states-usable.sink

pub left-usable : (t : Token) (s : State) (line : ℕ) → Usable s → step (hushed s) t line ≡ Ok (answered (taken t s))
    → Usable (taken t s).state
left-usable t s line usable e =
    usable-unhushed (taken t s).state
    (subst (λ r. IfOk r (λ p. Usable p.0)) e (states-usable.sink.keeps (hushed s) (usable-hushed s usable) t line))

-- after the step, what follows is read from there
pub read-taken : (rows : List Row) (st next : Stand) (s : State) (t : Token) (slice : List ℕ) (line breaks n : ℕ) (rest : List ℕ)
    → is_idle t ≡ false
    → Usable s → read rows st breaks (hushed s) (slice ++ rest) ≡
    (step (hushed s) t line >>= λ p. read rows (next_stand next p.1) n p.0 rest)
    → IsOk (read rows st breaks (hushed s) (slice ++ rest))
    → IsReadTo rows st s slice breaks rest (next_stand next (taken t s).reply) (taken t s).state
read-taken rows st next s t slice line breaks n rest idle usable e ok =
    let go = λ (p : State × Reply). read rows (next_stand next p.1) n p.0 rest in
    let given = step-taken t s line go idle (subst IsOk e ok) in
    record {
      usable = left-usable t s line usable given;
      behind = n;
      is = e ∙ ap (λ r. r >>= go) given;
    }

pub reads-token : (rows : List Row) (st next : Stand) (s : State) (slice : List ℕ) (t : Token) → IsTold rows st slice t next
    → is_idle t ≡ false
    → Reads rows st s slice (next_stand next (taken t s).reply) (taken t s).state
reads-token rows st next s slice t told idle usable breaks rest ok =
    let n = breaks + line_breaks slice in
    read-taken rows st next s t slice (line_number n) breaks n rest idle usable
    (told-read rows (hushed s) rest st next slice t breaks (told (asks_cdata (hushed s)) rest)) ok

-- a comment is answered by nothing
pub reads-comment : (rows : List Row) (st next : Stand) (s : State) (slice text : List ℕ) → IsTold rows st slice (CommentToken text) next
    → Reads rows st s slice next (taken (CommentToken text) s).state
reads-comment rows st next s slice text told usable breaks rest ok =
    let t = CommentToken text in
    let n = breaks + line_breaks slice in
    let e = told-read rows (hushed s) rest st next slice t breaks (told (asks_cdata (hushed s)) rest) in
    let given = step-taken t s (line_number n) (λ p. read rows (next_stand next p.1) n p.0 rest) refl (subst IsOk e ok) in
    let continues : (taken t s).reply ≡ reply.Continue =
    subst (λ r. IfOk r (λ p. IsReplyTo t p.1)) given (tokens-lawful.replies (hushed s) t (line_number n)) in
    subst (λ x. IsReadTo rows st s slice breaks rest x (taken t s).state) (ap (next_stand next) continues)
    (read-taken rows st next s t slice (line_number n) breaks n rest refl usable e ok)

-- TEXTS

pub reads-text : (rows : List Row) → ReadsEscapes rows → (place : TextPlace) (last : Option (List ℕ)) (s : State) (c : ℕ) (cs : List ℕ)
    → is_kept (c ∷ cs) ≡ true
    → Reads rows (in_text place last) s (escape (c ∷ cs)) (in_text place last) (taken (CharacterTokens (c ∷ cs)) s).state
reads-text rows reads place last s c cs kept usable breaks rest ok =
    let t = CharacterTokens (c ∷ cs) in
    let n = breaks + line_breaks (escape (c ∷ cs)) in
    let e = text-read step (λ (f : Fault) s. s) asks_cdata ended rows Usable usable-laws reads place last breaks (hushed s)
    (usable-hushed s usable) c cs rest 0 (not-null (c ∷ cs) kept) in
    let go = λ (p : State × Reply). read rows (in_text place last) n p.0 rest in
    let given = step-taken t s 0 go refl (subst IsOk e ok) in
    record {
      usable = left-usable t s 0 usable given;
      behind = n;
      is = e ∙ ap (λ r. r >>= go) given;
    }
