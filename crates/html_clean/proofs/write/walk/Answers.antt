use Rattle.std.proofs.Common.{List, [], ◌∷◌, None, ap, inl, refl, sym}
use Rattle.std.specs.Prelude.{false, true}
use Rattle.markup.specs.Calls.{Call, StopsBefore}
use Rattle.markup.specs.declared.serializer.SerializeFault.TheVariants.{Memory}
use Rattle.markup.specs.declared.serializer.TraversalScope.TheVariants.{ChildrenOnly}
use Rattle.html_serialize.specs.Puts.{told_by}
use Rattle.html_serialize.specs.Serializing.{Serializing, refuses, started}
use Rattle.html_clean.proofs.write.walk.Goals as goal

-- a walk that made no call
at_start : (s : Serializing) (calls : List Call) → StopsBefore refuses s calls Memory s
at_start s [] = (refl, refl)
at_start s (call ∷ calls) = inl (refl, refl)

pub returns-in-Err-clause-serializes : goal.returns-in-Err-clause-serializes
returns-in-Err-clause-serializes g c =
    let s = started true false (ChildrenOnly None) (told_by g.Wr.Target.written g.Wr.Target.failures c.args.writer) in (
      s,
      (
        ap (told_by g.Wr.Target.written g.Wr.Target.failures) (sym c.in-Err.ensures.back),
        record { made = []; left = _; reached = s; parts = refl; ran = refl; stopped = at_start s _ },
      ),
    )
