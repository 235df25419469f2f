-- The codes of the statuses.
use Rattle.std.specs.Prelude.{ℕ}
use Rattle.mast_cli.specs.declared.status.Status.{Status}
use Rattle.mast_cli.specs.declared.status.Status.TheVariants as st

-- the code with which the program ends
abbrev pub code_of : Status → ℕ
code_of st.Done = 0
code_of st.Usage = 1
code_of st.Refused = 2
code_of st.Conflict = 3
code_of st.Limit = 4
code_of st.ReadFault = 5
code_of st.WriteFault = 6
code_of st.NoMemory = 7
