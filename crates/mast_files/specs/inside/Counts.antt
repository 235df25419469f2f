-- The counts of an object in memory.
use Rattle.std.specs.Prelude.{Bool, if◌then◌else◌}
use Rattle.mast_files.specs.declared.calls.Calls.{Calls}
use Rattle.mast_files.specs.States.{next_count}

-- the counts after a call, which failed or not
abbrev pub after_call : Calls → Bool → Calls
after_call calls fails = record calls {
  count = next_count calls.count;
  faults = if fails then next_count calls.faults else calls.faults;
}
