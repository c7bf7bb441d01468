use Rattle.std.proofs.Common.{◌≡◌, List, [], ◌∷◌, refl, inl}
use Rattle.markup.specs.Calls.{Call, StopsBefore}
use Rattle.markup.specs.declared.serializer.SerializeFault.{SerializeFault}
use Rattle.markup.specs.declared.serializer.SerializeFault.TheVariants.{Memory}
use Rattle.html_serialize.specs.Puts.{told_by}
use Rattle.html_serialize.specs.Serializing.{Serializing, refuses, started}
use Rattle.html_serialize.proofs.serializer.walk.Goals as goal

-- a walk that made no call
at_start : (s : Serializing) (calls : List Call) (fault : SerializeFault) → fault ≡ Memory → StopsBefore refuses s calls fault s
at_start s [] fault is = (is, refl)
at_start s (call ∷ calls) fault is = inl (is, refl)

pub returns-in-Err-clause-serializes : goal.returns-in-Err-clause-serializes
returns-in-Err-clause-serializes g c =
    let s = started c.args.opts.scripting_enabled c.args.opts.create_missing_parent c.args.opts.traversal_scope
    (told_by g.Wr.Target.written g.Wr.Target.failures c.args.writer) in (
      s,
      (
        refl,
        record {
          made = [];
          left = _;
          reached = s;
          parts = refl;
          ran = refl;
          stopped = at_start s _ c.in-Err.fault c.in-Err.ensures.fault;
        },
      ),
    )
