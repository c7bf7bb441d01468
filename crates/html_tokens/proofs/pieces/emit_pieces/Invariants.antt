use Rattle.std.proofs.Common.{◌≡◌, false, ◌<◌, length}
use Rattle.html_tokens.specs.Pieces.{told}
use Rattle.html_tokens.proofs.pieces.emit_pieces.Given as goal

-- All the pieces make of the first state what the pieces that are left make of this one, and once a piece was told the
-- sink has not failed.
abbrev pub invariant-loop-text : goal.invariant-loop-text
invariant-loop-text g l =
    let T = g.S.TokenSink in
    (told T.step (T.view l.fn.sink) l.fn.pieces.items ≡ told T.step (T.view l.sink) l.text-iterator.rest.items)
    × T.is_sound (T.view l.sink)
    × (T.has_failed l.sink ≡ T.has_failed l.fn.sink)
    × (length l.text-iterator.rest.items < length l.fn.pieces.items → T.has_failed l.sink ≡ false)
