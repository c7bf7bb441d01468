-- What cleaning a document or a fragment writes and tells.
use Rattle.std.specs.Prelude.{◌≡◌, ℕ, ◌≤◌, List, [], ◌∷◌, length, take, Option, Some, None, Result, Ok, Err}
use Rattle.std.specs.Prelude.{codes, encode_utf8_all, ◌⊎◌}
use Rattle.std.specs.Io.KnownBytes.{append_known}
use Rattle.markup.specs.Forest.{Forest, children_of}
use Rattle.markup.specs.Names.{html_namespace}
use Rattle.markup.specs.Trees.{Trees, inner_of, trees_of}
use Rattle.markup.specs.declared.names.QualName.{QualName}
use Rattle.html_clean.specs.Bounds.{beyond}
use Rattle.html_clean.specs.Counts.{counts_of}
use Rattle.html_clean.specs.Pieces.{Piece, written_pieces}
use Rattle.html_clean.specs.Written.{IsLeft}
use Rattle.html_clean.specs.declared.bounding.Bound.{Bound}
use Rattle.html_clean.specs.declared.bounding.BoundedFault.{BoundedFault}
use Rattle.html_clean.specs.declared.bounding.BoundedFault.TheVariants as bounded
use Rattle.html_clean.specs.declared.bounding.Bounds.{Bounds}
use Rattle.html_clean.specs.declared.counts.Cleaned.{Cleaned}
use Rattle.html_clean.specs.declared.policy.Policy.{Policy}
use Rattle.html_input.specs.Reading.{HasBegun, ShowsNotUtf8}
use Rattle.html_tokens.specs.Table.{Row}
use Rattle.html_normal.specs.Document.{IsDocument, document_trees}
use Rattle.html_normal.specs.Fragment.{IsFragment}
use Rattle.html_normal.specs.Normal.{IsTooLong}
use Rattle.html_normal.specs.declared.fault.NormalFault.{NormalFault}
use Rattle.html_normal.specs.declared.fault.NormalFault.TheVariants.{NotUtf8, Read, Write, Memory, Refused}
use Rattle.html_clean_document.specs.declared.bounded.WithinFault.{WithinFault}
use Rattle.html_clean_document.specs.declared.bounded.WithinFault.TheVariants.{Beyond, Other}

-- THE INPUT'S TREES

-- trees are those of the document that the rules give bytes
pub record IsDocumentOf (table : List Row) (bytes : List ℕ) (trees : Trees) : Type 0 where
  pub document : Forest
  pub input : IsDocument table bytes document
  pub are : trees ≡ document_trees document

-- the first of nodes, or else the document
abbrev pub first_or_document : List ℕ → ℕ
first_or_document [] = 0
first_or_document (n ∷ ns) = n

-- the root of a fragment: the first child of its document
abbrev pub root_of : Forest → ℕ
root_of f = first_or_document (children_of f 0)

-- the trees that stand in it
abbrev pub fragment_trees : Forest → Trees
fragment_trees f = trees_of f (inner_of f (root_of f))

-- trees are those of the fragment that the rules give bytes, in a new element of that name
pub record IsFragmentOf (table : List Row) (name : QualName) (bytes : List ℕ) (trees : Trees) : Type 0 where
  pub fragment : Forest
  pub input : IsFragment table name bytes fragment
  pub are : trees ≡ fragment_trees fragment

abbrev pub div_name : QualName
div_name = record { prefix = None; ns = html_namespace; local = codes "div" }

-- WHAT IS WRITTEN OF THEM

-- `of` says which trees bytes have
module _ (of : List ℕ → Trees → Type 0) (policy : Policy) where
  -- Tags and texts are what the policy keeps of the input's trees.
  pub record IsKeptOf (whole : List ℕ) (pieces : List Piece) : Type 0 where
    pub trees : Trees
    pub input : of whole trees
    pub left : IsLeft policy trees pieces

  -- All of the input was read, such tags and texts were written after what was written before, and what the policy takes away of the
  -- input's trees is counted.
  pub record IsCleaned (whole : List ℕ) (left old new : Option (List ℕ)) (counts : Cleaned) : Type 0 where
    pub pieces : List Piece
    pub kept : IsKeptOf whole pieces
    pub taken : left ≡ Some []
    pub output : new ≡ append_known old (encode_utf8_all (written_pieces pieces))
    pub counts_are : counts ≡ counts_of policy kept.trees

  -- A beginning of such tags and texts was written.
  pub record IsBegun (whole : List ℕ) (old new : Option (List ℕ)) : Type 0 where
    pub pieces : List Piece
    pub kept : IsKeptOf whole pieces
    pub count : ℕ
    pub within : count ≤ length (encode_utf8_all (written_pieces pieces))
    pub output : new ≡ append_known old (take count (encode_utf8_all (written_pieces pieces)))

  -- What a fault says of the bytes of the input that were left before and are left now, and of those written before and now.
  abbrev pub IsFailed : (left left' old new : Option (List ℕ)) → NormalFault → Type 0
  IsFailed left left' old new (NotUtf8 at) =
      (new ≡ old) × ((whole rest : List ℕ) → left ≡ Some whole → left' ≡ Some rest → ShowsNotUtf8 whole rest at)
  IsFailed left left' old new Read = (new ≡ old) × ((whole rest : List ℕ) → left ≡ Some whole → left' ≡ Some rest
      → HasBegun whole rest ⊎ IsTooLong whole rest)
  IsFailed left left' old new Write = (whole : List ℕ) → left ≡ Some whole → IsBegun whole old new
  IsFailed left left' old new Memory = (new ≡ old) ⊎ ((whole : List ℕ) → left ≡ Some whole → IsBegun whole old new)
  IsFailed left left' old new Refused = ⊥

  -- WITHIN BOUNDS

  -- The same, and what the policy keeps passes no bound.
  pub record IsCleanedWithin (bounds : Bounds) (whole : List ℕ) (left old new : Option (List ℕ)) (counts : Cleaned) : Type 0 where
    pub cleaned : IsCleaned whole left old new counts
    pub within : beyond bounds policy cleaned.kept.trees ≡ None

  pub record IsBegunWithin (bounds : Bounds) (whole : List ℕ) (old new : Option (List ℕ)) : Type 0 where
    pub begun : IsBegun whole old new
    pub within : beyond bounds policy begun.kept.trees ≡ None

  -- All of the input was read, and this is the first bound that what the policy keeps of its trees passes.
  pub record IsTooMuch (bounds : Bounds) (whole : List ℕ) (left : Option (List ℕ)) (bound : Bound) : Type 0 where
    pub trees : Trees
    pub input : of whole trees
    pub taken : left ≡ Some []
    pub first : beyond bounds policy trees ≡ Some bound

  -- What a fault says of the bytes of the input that were left before and are left now, and of those written before and now.
  abbrev pub IsFailedWithin : Bounds → (left left' old new : Option (List ℕ)) → WithinFault → Type 0
  IsFailedWithin bounds left left' old new (Beyond bound) =
      (new ≡ old) × ((whole : List ℕ) → left ≡ Some whole → IsTooMuch bounds whole left' bound)
  IsFailedWithin bounds left left' old new (Other (NotUtf8 at)) = IsFailed left left' old new (NotUtf8 at)
  IsFailedWithin bounds left left' old new (Other Read) = IsFailed left left' old new Read
  IsFailedWithin bounds left left' old new (Other Write) = (whole : List ℕ) → left ≡ Some whole → IsBegunWithin bounds whole old new
  IsFailedWithin bounds left left' old new (Other Memory) = new ≡ old
  IsFailedWithin bounds left left' old new (Other Refused) = ⊥

-- what an answer says of reading and writing: a bound that was passed is no fault of theirs
abbrev pub of_devices : {T : Type 0} → Result T WithinFault → Result (Option T) NormalFault
of_devices (Ok counts) = Ok (Some counts)
of_devices (Err (Beyond bound)) = Ok None
of_devices (Err (Other fault)) = Err fault

-- a fault of writing within bounds, for the whole
abbrev pub within_fault_of : BoundedFault → WithinFault
within_fault_of (bounded.Beyond bound) = Beyond bound
within_fault_of bounded.Memory = Other Memory
within_fault_of bounded.Write = Other Write
