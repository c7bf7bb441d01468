-- Where a control character or a noncharacter may begin in UTF-8.
use Rattle.std.specs.Prelude.{ℕ, Bool, ◌&&◌, ◌||◌, not, nat_eq, nat_le, nat_lt}
use Rattle.html_tokens.specs.Forbidden.{is_within}

-- a byte that may begin such a character: below U+0020, U+007F, from U+0080 to U+009F, and from U+F000 on
abbrev pub may_begin_forbidden : ℕ → Bool
may_begin_forbidden b = not (is_within 32 126 b) && not (nat_eq b 10) && not (nat_eq b 9)
    && (nat_lt b 128 || nat_eq b 0xC2 || nat_le 0xEF b)
