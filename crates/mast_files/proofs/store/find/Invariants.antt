use Rattle.std.proofs.Common.{◌≡◌, drop}
use Rattle.mast_files.specs.Stored.{content_of, holds}
use Rattle.mast_files.proofs.store.find.Given as goal

abbrev pub invariant-loop-place : goal.invariant-loop-place
invariant-loop-place l = record {
  held : holds (drop l.place l.files) l.name ≡ holds l.files l.name;
  content : content_of (drop l.place l.files) l.name ≡ content_of l.files l.name;
}
