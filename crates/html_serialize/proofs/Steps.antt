-- What a call of the parts of a serializer makes of the whole.
use Rattle.std.proofs.Common.{◌≡◌, ◌≢◌, ◌∙◌, ℕ, Bool, true, false, List, Result, Ok, Err, IsOk, refl, sym, ap}
use Rattle.std.specs.Result.{IfErr}
use Rattle.markup.specs.Calls.{Answers, Call}
use Rattle.markup.specs.Trees.{Entry}
use Rattle.markup.specs.declared.serializer.SerializeFault.{SerializeFault}
use Rattle.markup.specs.declared.serializer.SerializeFault.TheVariants.{Write, NoParent, NoElemInfo, Memory, Failed}
use Rattle.html_serialize.specs.Puts.{Broke, Puts, WriterView}
use Rattle.html_serialize.specs.Serializing.{Does, Serializing, with_stack_after, bytes_of, is_fatal, may_grow, refuses, stack_after, step}

IsOk-from : {A : Type 0} (behind : Result A SerializeFault) (x : A) → behind ≡ Ok x → IsOk behind
IsOk-from behind x is = rw is refl

-- bytes were put once the stack was as it is after the call
pub Does-puts : {R : Type 0} (behind : Result (List Entry) SerializeFault) (bytes : List ℕ)
    (stack stack' : List Entry) (told told' : WriterView) (result : Result R SerializeFault)
    → behind ≡ Ok stack' → Puts told bytes result told' → Does behind bytes stack told result stack' told'
Does-puts behind bytes stack stack' told told' (Ok _) is puts = (is, puts)
Does-puts behind bytes stack stack' told told' (Err Write) is puts = (IsOk-from behind stack' is, puts.1)
Does-puts behind bytes stack stack' told told' (Err Memory) is puts = absurd (let h = puts.0 in cc)
Does-puts behind bytes stack stack' told told' (Err NoParent) is puts = absurd (let h = puts.0 in cc)
Does-puts behind bytes stack stack' told told' (Err NoElemInfo) is puts = absurd (let h = puts.0 in cc)
Does-puts behind bytes stack stack' told told' (Err Failed) is puts = absurd (let h = puts.0 in cc)

given : {A : Type 0} (behind : Result A SerializeFault) → IsOk behind → (x : A) × (behind ≡ Ok x)
given (Ok x) is = (x, refl)
given (Err fault) is = absurd cc

-- after a fault that failed the serializer
pub answered-failed : (s : Serializing) (call : Call) → s.failed ≡ true → refuses s call Failed s
unfolding refuses step
answered-failed s call failed = record { refused = rw failed refl; same = refl }

pub step-ok : (s : Serializing) (call : Call) (stack : List Entry) → s.failed ≡ false
    → stack_after s call ≡ Ok stack → step s call ≡ Ok (with_stack_after s call stack)
unfolding step
step-ok s call stack well is = rw (well, is) refl

unchanged : (s : Serializing) (stack' : List Entry) (told' : WriterView) (failed' : Bool) → s.failed ≡ false
    → failed' ≡ false → stack' ≡ s.stack → told' ≡ s.told → record s { stack = stack'; told = told'; failed = failed' } ≡ s
unchanged s stack' told' failed' well fatal same_stack same_told =
    ap (λ (x : List Entry). record s { stack = x; told = told'; failed = failed' }) same_stack
    ∙ ap (λ (x : WriterView). record s { told = x; failed = failed' }) same_told
    ∙ ap (λ (x : Bool). record s { failed = x }) (fatal ∙ sym well)

-- a call's answer, by what it left of the stack and of what the writer tells
pub answered : {R : Type 0} (s : Serializing) (call : Call) (stack' : List Entry) (told' : WriterView)
    (failed' : Bool) (result : Result R SerializeFault)
    → s.failed ≡ false → failed' ≡ is_fatal result → (result ≡ Err Memory → may_grow call ≡ true)
    → Does (stack_after s call) (bytes_of s call) s.stack s.told result stack' told'
    → Answers step refuses s call result (record s { stack = stack'; told = told'; failed = failed' })
unfolding refuses step
answered s call stack' told' failed' (Ok answer) well fatal grows does = rw (fatal, does.1, well, does.0) refl
answered s call stack' told' failed' (Err Write) well fatal grows does =
    let behind = given (stack_after s call) does.0 in
    record { behind = with_stack_after s call behind.0; taken = step-ok s call behind.0 well behind.1; broke = does.1; failed = fatal }
answered s call stack' told' failed' (Err Memory) well fatal grows does =
    let behind = given (stack_after s call) does.0 in
    record {
      grows = grows refl;
      behind = with_stack_after s call behind.0;
      taken = step-ok s call behind.0 well behind.1;
      same = does.1;
      failed = fatal;
    }
answered s call stack' told' failed' (Err NoParent) well fatal grows does = record {
  refused = rw (well, does.0) refl;
  same = unchanged s stack' told' failed' well fatal does.1 does.2;
}
answered s call stack' told' failed' (Err NoElemInfo) well fatal grows does = record {
  refused = rw (well, does.0) refl;
  same = unchanged s stack' told' failed' well fatal does.1 does.2;
}
answered s call stack' told' failed' (Err Failed) well fatal grows does = record {
  refused = rw (well, does.0) refl;
  same = unchanged s stack' told' failed' well fatal does.1 does.2;
}

-- the same of a call that takes no memory
pub answered-none : {R : Type 0} (s : Serializing) (call : Call) (stack' : List Entry) (told' : WriterView)
    (failed' : Bool) (result : Result R SerializeFault)
    → s.failed ≡ false → failed' ≡ is_fatal result → IfErr result (λ fault. fault ≢ Memory)
    → Does (stack_after s call) (bytes_of s call) s.stack s.told result stack' told'
    → Answers step refuses s call result (record s { stack = stack'; told = told'; failed = failed' })
answered-none s call stack' told' failed' result well fatal none does =
    answered s call stack' told' failed' result well fatal (λ is. absurd ((rw is at none) refl)) does

-- the same of a call that only puts bytes
pub answered-puts : {R : Type 0} (s : Serializing) (call : Call) (told' : WriterView) (failed' : Bool) (result : Result R SerializeFault)
    → s.failed ≡ false → failed' ≡ is_fatal result → stack_after s call ≡ Ok s.stack → Puts s.told (bytes_of s call) result told'
    → Answers step refuses s call result (record s { told = told'; failed = failed' })
answered-puts s call told' failed' result well fatal kept puts =
    answered s call s.stack told' failed' result well fatal (λ is. absurd (not_memory (rw is at puts)))
    (Does-puts (stack_after s call) (bytes_of s call) s.stack s.stack s.told told' result kept puts)
  where
    not_memory : (Memory ≡ Write) × Broke s.told (bytes_of s call) told' → ⊥
    not_memory puts = let h = puts.0 in cc
