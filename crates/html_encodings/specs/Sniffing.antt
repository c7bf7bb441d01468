-- Which encoding a page is in (HTML Standard, section 13.2.3.2: "encoding sniffing algorithm").
use Rattle.std.specs.Prelude.{ℕ, cond, Option, Some, None, List, [], ◌∷◌, take, nat_eq}
use Rattle.std.specs.List.{starts_with}
use Rattle.std.specs.Option.{option_and_then}
use Rattle.html_encodings.specs.Labels.{label_encoding}
use Rattle.html_encodings.specs.Prescan.{prescanned}
use Rattle.html_encodings.specs.declared.names.Encoding.{Encoding}
use Rattle.html_encodings.specs.declared.names.Encoding.TheVariants.{Utf8, Utf16be, Utf16le}
use Rattle.html_encodings.specs.declared.sniffing.Mark.{Mark}
use Rattle.html_encodings.specs.declared.sniffing.Sniffed.{Sniffed}
use Rattle.html_encodings.specs.declared.sniffing.Why.TheVariants.{ByteOrderMark, Transport, Declaration, Fallback}

-- "BOM sniff" (Encoding Standard, section 6)
abbrev pub mark_of : List ℕ → Option Mark
mark_of bytes =
    cond (starts_with nat_eq bytes (0xEF ∷ 0xBB ∷ 0xBF ∷ [])) (Some (record { encoding = Utf8; length = 3 }))
    (cond (starts_with nat_eq bytes (0xFE ∷ 0xFF ∷ [])) (Some (record { encoding = Utf16be; length = 2 }))
    (cond (starts_with nat_eq bytes (0xFF ∷ 0xFE ∷ [])) (Some (record { encoding = Utf16le; length = 2 })) None))

-- the declaration, or what the caller falls back on
abbrev pub sniffed_inside : Option Encoding → Encoding → Sniffed
sniffed_inside (Some encoding) fallback = record { encoding = encoding; why = Declaration; mark_length = 0 }
sniffed_inside None fallback = record { encoding = fallback; why = Fallback; mark_length = 0 }

abbrev pub sniffed_outside : Option Encoding → List ℕ → Encoding → Sniffed
sniffed_outside (Some encoding) bytes fallback = record { encoding = encoding; why = Transport; mark_length = 0 }
sniffed_outside None bytes fallback = sniffed_inside (prescanned (take 1024 bytes)) fallback

abbrev pub sniffed_by : Option Mark → Option (List ℕ) → List ℕ → Encoding → Sniffed
sniffed_by (Some mark) label bytes fallback = record { encoding = mark.encoding; why = ByteOrderMark; mark_length = mark.length }
sniffed_by None label bytes fallback = sniffed_outside (option_and_then label_encoding label) bytes fallback

-- a byte order mark, a label that came with the bytes, a declaration among the first 1,024 bytes, and then what the caller
-- falls back on
abbrev pub sniffed : List ℕ → Option (List ℕ) → Encoding → Sniffed
sniffed bytes label fallback = sniffed_by (mark_of bytes) label bytes fallback
