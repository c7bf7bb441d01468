use Rattle.std.proofs.Common.{◌≡◌, ◌+◌, ◌-◌, rules, length, refl}
use Rattle.std.proofs.lemmas.Str.{IsUtf8-append, IsUtf8-had}
use Rattle.std.proofs.lemmas.Slice.{take-put_mid}
use Rattle.markup.proofs.short_text.ShortText.push_str.Goals as goal

pub invariant_of-self : goal.invariant_of-self
invariant_of-self c =
    let len = c.self.inside.len in
    let end = len + length c.args.more.now in
    let written : c.copy_from_slice.new.self ≡ c.args.more.now = search rules in (
      search rules,
      ∣ rw (written, take-put_mid len (end - len) c.self.inside.cells c.args.more.now end refl (search rules))
          (IsUtf8-append _ _ (IsUtf8-had _ c.self.invariant.1) c.utf8.more) ∣₁,
    )

pub returns-clause-utf8 : goal.returns-clause-utf8
returns-clause-utf8 c = rw (← c.self.view_is) (IsUtf8-had _ c.self.invariant.1)
