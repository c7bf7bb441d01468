-- A text in Markdown, and what a reader takes it for (CommonMark, sections 2.1 and 2.4).
use Rattle.std.specs.Prelude.{ℕ, ◌==◌, ◌||◌, Bool, true, false, cond, List, [], ◌∷◌, ◌++◌}
use Rattle.std.specs.Char.{is_ascii_punctuation}

-- what a reader takes as markup wherever it stands: \ ` * _ [ ] < & and GitHub's ~ and |
abbrev pub is_markup : ℕ → Bool
is_markup c =
    c == 92 || (c == 96 || (c == 42 || (c == 95 || (c == 91 || (c == 93 || (c == 60 || (c == 38 || (c == 126 || c == 124))))))))

-- white space that HTML collapses, and a form feed
abbrev pub is_white : ℕ → Bool
is_white c = c == 32 || (c == 9 || (c == 10 || (c == 13 || c == 12)))

-- a character of a description: white space is a space, and markup has a backslash before it
unfoldable pub described : ℕ → List ℕ
described c = cond (is_white c) (32 ∷ []) (cond (is_markup c) (92 ∷ c ∷ []) (c ∷ []))

-- a text that stands for an image
abbrev pub description : List ℕ → List ℕ
description [] = []
description (c ∷ cs) = described c ++ description cs

-- the text with its white space as spaces
abbrev pub spaced : List ℕ → List ℕ
spaced [] = []
spaced (c ∷ cs) = cond (is_white c) 32 c ∷ spaced cs

-- what a reader makes of backslashes (section 2.4): before ASCII punctuation they are left out, and what follows is no markup. The first
-- argument says that a backslash was read.
abbrev pub read : Bool → List ℕ → List ℕ
read false [] = []
read true [] = 92 ∷ []
read false (c ∷ cs) = cond (c == 92) (read true cs) (c ∷ read false cs)
read true (c ∷ cs) = cond (is_ascii_punctuation c) (c ∷ read false cs) (92 ∷ c ∷ read false cs)

-- the markup that a reader finds: what stands bare, with no backslash before it
abbrev pub has_markup : Bool → List ℕ → Bool
has_markup behind [] = false
has_markup true (c ∷ cs) = has_markup false cs
has_markup false (c ∷ cs) = cond (c == 92) (has_markup true cs) (is_markup c || has_markup false cs)
