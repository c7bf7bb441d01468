-- The indexes (Encoding Standard, section 5).
use Rattle.std.specs.Prelude.{ℕ, ◌+◌, ◌-◌, ◌%◌, ◌^◌, ◌&&◌, ◌||◌, cond, Option, Some, None, List, [], ◌∷◌, ◌++◌, nat_le, nat_lt, ◌==◌, slice_index}
use Rattle.html_encodings.specs.Handlers.{code_point, entry_item}
use Rattle.html_encodings_multibyte.specs.declared.gb18030_low.TheConstants.{GB18030_LOW}
use Rattle.html_encodings_multibyte.specs.declared.gb18030_high.TheConstants.{GB18030_HIGH}
use Rattle.html_encodings_multibyte.specs.declared.big5_low.TheConstants.{BIG5_LOW}
use Rattle.html_encodings_multibyte.specs.declared.big5_high.TheConstants.{BIG5_HIGH}
use Rattle.html_encodings_multibyte.specs.declared.euc_kr_low.TheConstants.{EUC_KR_LOW}
use Rattle.html_encodings_multibyte.specs.declared.euc_kr_high.TheConstants.{EUC_KR_HIGH}
use Rattle.html_encodings_multibyte.specs.declared.jis0208_index.TheConstants.{JIS0208}
use Rattle.html_encodings_multibyte.specs.declared.jis0212_index.TheConstants.{JIS0212}
use Rattle.html_encodings_multibyte.specs.declared.ranges_index.TheConstants.{RANGES}

unfoldable pub gb18030_low : List ℕ
gb18030_low = GB18030_LOW

unfoldable pub gb18030_high : List ℕ
gb18030_high = GB18030_HIGH

unfoldable pub gb18030_index : List ℕ
gb18030_index = gb18030_low ++ gb18030_high

unfoldable pub big5_low : List ℕ
big5_low = BIG5_LOW

unfoldable pub big5_high : List ℕ
big5_high = BIG5_HIGH

unfoldable pub big5_index : List ℕ
big5_index = big5_low ++ big5_high

unfoldable pub euc_kr_low : List ℕ
euc_kr_low = EUC_KR_LOW

unfoldable pub euc_kr_high : List ℕ
euc_kr_high = EUC_KR_HIGH

unfoldable pub euc_kr_index : List ℕ
euc_kr_index = euc_kr_low ++ euc_kr_high

unfoldable pub jis0208_index : List ℕ
jis0208_index = JIS0208

unfoldable pub jis0212_index : List ℕ
jis0212_index = JIS0212

-- the pointers at which ranges begin, with their code points, in the order of the pointers
unfoldable pub gb18030_ranges : List (ℕ × ℕ)
gb18030_ranges = RANGES

-- "index code point"
abbrev pub item_at : List ℕ → ℕ → Option ℕ
item_at index pointer = entry_item (slice_index index pointer)

-- the code point of the last range that begins at the pointer or before it, and how far the pointer is in it, in 32 bits
abbrev pub in_range : List (ℕ × ℕ) → ℕ → ℕ → ℕ
in_range [] pointer code = code
in_range (row ∷ rows) pointer code = cond (nat_le row.0 pointer) (in_range rows pointer ((row.1 + (pointer - row.0)) % 2 ^ 32)) code

-- "index gb18030 ranges code point"
abbrev pub ranges_item : ℕ → Option ℕ
ranges_item pointer = cond ((nat_lt 39419 pointer && nat_lt pointer 189000) || nat_lt 1237575 pointer) None
    (cond (pointer == 7457) (Some 0xE7C7) (code_point (in_range gb18030_ranges pointer 0)))
