use Rattle.std.proofs.Common.{◌∷◌, [], refl}
use Rattle.std.proofs.lemmas.List.{append-nil}
use Rattle.std.specs.String.{string_bytes}
use Rattle.html_encodings.proofs.Texts.{put_more, utf8_of-nil}
use Rattle.html_encodings.proofs.decoder.put_all.Goals as goal

pub returns-in-Nothing-clause-ok : goal.returns-in-Nothing-clause-ok
returns-in-Nothing-clause-ok c = rw (c.in-Nothing.is, utf8_of-nil, append-nil (string_bytes c.args.text.now)) refl

pub returns-in_ok-put-in-Two-2-clause-ok : goal.returns-in_ok-put-in-Two-2-clause-ok
returns-in_ok-put-in-Two-2-clause-ok c =
    let both = put_more _ _ _ (c.in-Two.a ∷ []) c.in-Two.b c.in_ok-put-in-Two.ensures.ok c.in_ok-put-in-Two-2.ensures.ok in
    rw c.in-Two.is both

pub returns-in_ok-put-in-Three-3-clause-ok : goal.returns-in_ok-put-in-Three-3-clause-ok
returns-in_ok-put-in-Three-3-clause-ok c =
    let t = c.in-Three in
    let both = put_more _ _ _ (t.a ∷ []) t.b c.in_ok-put-in-Three.ensures.ok c.in_ok-put-in-Three-2.ensures.ok in
    rw t.is (put_more _ _ _ (t.a ∷ t.b ∷ []) t.c both c.in_ok-put-in-Three-3.ensures.ok)

pub returns-in_ok-put-in-Four-4-clause-ok : goal.returns-in_ok-put-in-Four-4-clause-ok
returns-in_ok-put-in-Four-4-clause-ok c =
    let t = c.in-Four in
    let both = put_more _ _ _ (t.a ∷ []) t.b c.in_ok-put-in-Four.ensures.ok c.in_ok-put-in-Four-2.ensures.ok in
    let three = put_more _ _ _ (t.a ∷ t.b ∷ []) t.c both c.in_ok-put-in-Four-3.ensures.ok in
    rw t.is (put_more _ _ _ (t.a ∷ t.b ∷ t.c ∷ []) t.d three c.in_ok-put-in-Four-4.ensures.ok)
