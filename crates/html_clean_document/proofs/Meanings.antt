-- What was read, cleaned and written, as one.
use Rattle.std.proofs.Common.{◌≡◌, ◌∙◌, ℕ, cond, List, [], Option, Some, None, Ok, Err, sym, ap, inr, refl}
use Rattle.devices.specs.Devices.{count_after}
use Rattle.markup.specs.Forest as forest
use Rattle.markup.specs.Forest.{Forest, children_of, data_of, template_of}
use Rattle.markup.specs.TreeLaws.{with_errors}
use Rattle.markup.specs.Trees.{Trees, inner_of, trees_of}
use Rattle.markup.specs.declared.names.QualName.{QualName}
use Rattle.markup.specs.declared.serializer.SerializeFault.{SerializeFault}
use Rattle.markup.specs.declared.serializer.SerializeFault.TheVariants as serial
use Rattle.markup.specs.declared.serializer.TraversalScope.TheVariants.{ChildrenOnly}
use Rattle.html_clean.specs.Bounds.{WritesWithin}
use Rattle.html_clean.specs.Written.{WritesClean}
use Rattle.html_clean.specs.declared.bounding.BoundedFault.{BoundedFault}
use Rattle.html_clean.specs.declared.bounding.BoundedFault.TheVariants as bounded
use Rattle.html_clean.specs.declared.bounding.Bounds.{Bounds}
use Rattle.html_clean.specs.declared.counts.Cleaned.{Cleaned}
use Rattle.html_clean.specs.declared.policy.Policy.{Policy}
use Rattle.html_forest.specs.Walk.{walked}
use Rattle.html_normal.specs.Document.{document_trees}
use Rattle.html_normal.specs.Faults.{write_fault_of}
use Rattle.html_normal.specs.Fragment.{IsFragmentRead}
use Rattle.html_normal.specs.Normal.{CountsReads, IsInputFault, IsRead, is_write_fault}
use Rattle.html_normal.specs.declared.fault.NormalFault.{NormalFault}
use Rattle.html_normal.specs.declared.fault.NormalFault.TheVariants as normal
use Rattle.html_normal.proofs.SameTrees.{trees_of-same}
use Rattle.html_serialize.specs.Puts.{WriterView}
use Rattle.html_tokens.specs.Table.{Row}
use Rattle.html_clean_document.specs.Clean.{IsCleaned, IsCleanedWithin, IsDocumentOf, IsFailed, IsFailedWithin, IsFragmentOf}
use Rattle.html_clean_document.specs.Clean.{within_fault_of, fragment_trees, of_devices, root_of}
use Rattle.html_clean_document.specs.declared.bounded.WithinFault.TheVariants.{Other}

-- WHAT WAS WRITTEN

module _ (of : List ℕ → Trees → Type 0) (policy : Policy) (trees : Trees) where
  pub was-cleaned : (whole : List ℕ) (left : Option (List ℕ)) (old new : WriterView) (counts : Cleaned)
      → of whole trees → left ≡ Some [] → WritesClean policy trees old (Ok counts) new
      → IsCleaned of policy whole left old.written new.written counts
  was-cleaned whole left old new counts is taken wrote = record {
    pieces = wrote.pieces;
    kept = record { trees = trees; input = is; left = wrote.left };
    taken = taken;
    output = ap (λ (t : WriterView). t.written) wrote.writes;
    counts_are = wrote.counts;
  }

  pub write-failed : (fault : SerializeFault) (left left' : Option (List ℕ)) (old new : WriterView)
      → ((whole : List ℕ) → left ≡ Some whole → of whole trees) → WritesClean policy trees old (Err fault) new
      → IsFailed of policy left left' old.written new.written (write_fault_of fault)
  write-failed serial.Write left left' old new is wrote = λ whole told. record {
    pieces = wrote.pieces;
    kept = record { trees = trees; input = is whole told; left = wrote.left };
    count = wrote.writes.count;
    within = wrote.writes.within;
    output = wrote.writes.written;
  }
  write-failed serial.NoParent left left' old new is wrote = absurd wrote.writes
  write-failed serial.NoElemInfo left left' old new is wrote = absurd wrote.writes
  write-failed serial.Memory left left' old new is wrote = inr (λ whole told. record {
    pieces = wrote.pieces;
    kept = record { trees = trees; input = is whole told; left = wrote.left };
    count = wrote.writes.count;
    within = wrote.writes.within;
    output = ap (λ (t : WriterView). t.written) wrote.writes.told;
  })
  write-failed serial.Failed left left' old new is wrote = absurd wrote.writes

  -- how often the writer failed
  pub write-counted : (fault : SerializeFault) (old new : WriterView) → WritesClean policy trees old (Err fault) new
      → new.failures ≡ count_after (is_write_fault {T = Cleaned} (Err (write_fault_of fault))) old.failures
  write-counted serial.Write old new wrote = wrote.writes.failed
  write-counted serial.NoParent old new wrote = absurd wrote.writes
  write-counted serial.NoElemInfo old new wrote = absurd wrote.writes
  write-counted serial.Memory old new wrote = ap (λ (t : WriterView). t.failures) wrote.writes.told
  write-counted serial.Failed old new wrote = absurd wrote.writes

module _ (of : List ℕ → Trees → Type 0) (policy : Policy) (bounds : Bounds) (trees : Trees) where
  pub was-within : (whole : List ℕ) (left : Option (List ℕ)) (old new : WriterView) (counts : Cleaned)
      → of whole trees → left ≡ Some [] → WritesWithin bounds policy trees old (Ok counts) new
      → IsCleanedWithin of policy bounds whole left old.written new.written counts
  was-within whole left old new counts is taken wrote = record {
    cleaned = record {
      pieces = wrote.pieces;
      kept = record { trees = trees; input = is; left = wrote.left };
      taken = taken;
      output = ap (λ (t : WriterView). t.written) wrote.writes;
      counts_are = wrote.counts;
    };
    within = wrote.bound;
  }

  pub failed-within : (fault : BoundedFault) (left left' : Option (List ℕ)) (old new : WriterView)
      → ((whole : List ℕ) → left ≡ Some whole → of whole trees × (left' ≡ Some []))
      → WritesWithin bounds policy trees old (Err fault) new
      → IsFailedWithin of policy bounds left left' old.written new.written (within_fault_of fault)
  failed-within (bounded.Beyond bound) left left' old new is wrote = (
    ap (λ (t : WriterView). t.written) wrote.writes,
    λ whole told.
        let read = is whole told in
        record { trees = trees; input = read.0; taken = read.1; first = wrote.bound },
  )
  failed-within bounded.Memory left left' old new is wrote = ap (λ (t : WriterView). t.written) wrote.writes
  failed-within bounded.Write left left' old new is wrote = λ whole told. record {
    begun = record {
      pieces = wrote.pieces;
      kept = record { trees = trees; input = (is whole told).0; left = wrote.left };
      count = wrote.writes.count;
      within = wrote.writes.within;
      output = wrote.writes.written;
    };
    within = wrote.bound;
  }

  -- how often the writer failed
  pub within-counted : (fault : BoundedFault) (old new : WriterView) → WritesWithin bounds policy trees old (Err fault) new
      → new.failures ≡ count_after (is_write_fault (of_devices {T = Cleaned} (Err (within_fault_of fault)))) old.failures
  within-counted (bounded.Beyond bound) old new wrote = ap (λ (t : WriterView). t.failures) wrote.writes
  within-counted bounded.Memory old new wrote = ap (λ (t : WriterView). t.failures) wrote.writes
  within-counted bounded.Write old new wrote = wrote.writes.failed

-- writing reads nothing
pub within-reads : (fault : BoundedFault) (left left' : Option (List ℕ)) (failures failures' : Option ℕ) → failures' ≡ failures
    → CountsReads (of_devices {T = Cleaned} (Err (within_fault_of fault))) left left' failures failures'
within-reads (bounded.Beyond bound) left left' failures failures' same = same
within-reads bounded.Memory left left' failures failures' same = same
within-reads bounded.Write left left' failures failures' same = same

-- what is said of reading that failed
pub read-failed : (of : List ℕ → Trees → Type 0) (policy : Policy) (bounds : Bounds) (fault : NormalFault)
    (left left' old new : Option (List ℕ)) → new ≡ old → IsInputFault ⊥ left left' fault
    → IsFailedWithin of policy bounds left left' old new (Other fault)
read-failed of policy bounds (normal.NotUtf8 at) left left' old new same h = (same, h)
read-failed of policy bounds normal.Read left left' old new same h = (same, h)
read-failed of policy bounds normal.Write left left' old new same h = absurd h
read-failed of policy bounds normal.Memory left left' old new same h = same
read-failed of policy bounds normal.Refused left left' old new same h = absurd h

-- how often a reader failed is said alike of answers of each type
pub reads-same : (T : Type 0) (fault : NormalFault) (left left' : Option (List ℕ)) (failures failures' : Option ℕ)
    → CountsReads {T = T} (Err fault) left left' failures failures'
    → CountsReads (of_devices {T = Cleaned} (Err (Other fault))) left left' failures failures'
reads-same T (normal.NotUtf8 at) left left' failures failures' h = h
reads-same T normal.Read left left' failures failures' h = h
reads-same T normal.Write left left' failures failures' h = h
reads-same T normal.Memory left left' failures failures' h = h
reads-same T normal.Refused left left' failures failures' h = h

-- reading that failed is no fault of a writer
pub reading-writes-nothing : (fault : NormalFault) (left left' : Option (List ℕ)) (failures : Option ℕ) → IsInputFault ⊥ left left' fault
    → failures ≡ count_after (is_write_fault (of_devices {T = Cleaned} (Err (Other fault)))) failures
reading-writes-nothing (normal.NotUtf8 at) left left' failures h = refl
reading-writes-nothing normal.Read left left' failures h = refl
reading-writes-nothing normal.Write left left' failures h = absurd h
reading-writes-nothing normal.Memory left left' failures h = refl
reading-writes-nothing normal.Refused left left' failures h = absurd h

-- a serializer reads nothing
pub reads-counted : (T : Type 0) (fault : SerializeFault) (left left' : Option (List ℕ))
    (failures failures' : Option ℕ) → failures' ≡ failures → CountsReads {T = T} (Err (write_fault_of fault)) left left' failures failures'
reads-counted T serial.Write left left' failures failures' same = same
reads-counted T serial.NoParent left left' failures failures' same = same
reads-counted T serial.NoElemInfo left left' failures failures' same = same
reads-counted T serial.Memory left left' failures failures' same = same
reads-counted T serial.Failed left left' failures failures' same = same

-- WHAT WAS READ

-- the trees that a walk of what stands in a document meets
trees-walked : (f : Forest) → data_of f 0 ≡ forest.NodeData.Document → walked f 0 (ChildrenOnly None) ≡ document_trees f
trees-walked f is = ap (λ about. trees_of f (children_of f (cond (template_of about) 1 0))) is

module _ (f g : Forest) (forest_is : f ≡ g) where
  trees-are : (id : ℕ) → id ≡ 0 → data_of f 0 ≡ forest.NodeData.Document
      → walked f id (ChildrenOnly None) ≡ document_trees (with_errors 0 g)
  trees-are id id_is top = ap (λ n. walked f n (ChildrenOnly None)) id_is
      ∙ (trees-walked f top ∙ (ap document_trees forest_is ∙ sym (trees_of-same 0 g (children_of g 0))))

  -- what was walked of a document that was read
  pub document-walked : (id : ℕ) → id ≡ 0 → data_of f 0 ≡ forest.NodeData.Document → (table : List Row) (exact : _)
      (whole : List ℕ) (left : Option (List ℕ)) (errors : ℕ) → IsRead table exact whole left (with_errors 0 g) errors
      → IsDocumentOf table whole (walked f id (ChildrenOnly None))
  document-walked id id_is top table exact whole left errors read = record {
    document = with_errors 0 g;
    input = read.input;
    are = trees-are id id_is top;
  }

  -- what was walked of a fragment that was read
  pub fragment-walked : (root : ℕ) → root ≡ root_of f → (table : List Row) (name : QualName) (whole : List ℕ)
      (left : Option (List ℕ)) → IsFragmentRead table name whole left (with_errors 0 g)
      → IsFragmentOf table name whole (walked f root (ChildrenOnly None))
  fragment-walked root root_is table name whole left read = record {
    fragment = with_errors 0 g;
    input = read.input;
    are = ap (λ n. walked f n (ChildrenOnly None)) root_is
        ∙ (ap fragment_trees forest_is ∙ sym (trees_of-same 0 g (inner_of g (root_of g))));
  }
