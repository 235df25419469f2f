-- The limits of a run, and which events are limits.
use Rattle.std.specs.Prelude.{ℕ}
use Rattle.mast_tree.specs.declared.document.DocName.{DocName}
use Rattle.mast_tree.specs.declared.document.DocName.TheVariants as doc
use Rattle.mast_write.specs.declared.refusals.EventKind.{EventKind}
use Rattle.mast_write.specs.declared.refusals.EventKind.TheVariants as tells
use Rattle.mast_write.specs.declared.refusals.Refusal.{Refusal}
use Rattle.mast_write.specs.RefusalLines.{event_kind}
use Rattle.mast_cli.specs.declared.limits.TheConstants.{ONTOLOGY_BYTES, CONSTRAINTS_BYTES, MAPPING_BYTES}
use Rattle.mast_cli.specs.declared.status.Status.{Status}
use Rattle.mast_cli.specs.declared.status.Status.TheVariants as st

-- the greatest number of bytes of a document
abbrev pub document_bytes : DocName → ℕ
document_bytes doc.Ontology = ONTOLOGY_BYTES
document_bytes doc.Constraints = CONSTRAINTS_BYTES
document_bytes doc.Mappings = MAPPING_BYTES

-- the status of a run that ends at an event of this kind
abbrev pub kind_status : EventKind → Status
kind_status tells.Refused = st.Refused
kind_status tells.Limit = st.Limit
kind_status tells.ReadFault = st.ReadFault

-- the status of a run that ends at this event
abbrev pub status_of : Refusal → Status
status_of event = kind_status (event_kind event)
