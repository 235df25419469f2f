-- The causes of what a part of a run gives.
use Rattle.std.specs.Prelude.{◌≡◌, ◌≤◌, ℕ, List}
use Rattle.mast_cli.specs.declared.judged.Judged.{Judged}
use Rattle.mast_cli.specs.declared.judged.Part.{Part}
use Rattle.mast_cli.specs.declared.judged.Part.TheVariants as part
use Rattle.mast_cli.specs.declared.status.Status.{Status}
use Rattle.mast_cli.specs.declared.status.Status.TheVariants as st
use Rattle.mast_files.specs.Outside.{Reading}
use Rattle.mast_files.specs.Causes.{Rose}
use Rattle.mast_cli.specs.Run.{FailedFile, fault_line}

-- A read fault is judged only where the count rose, with the line of the current file, of which a call has failed.
-- Nothing else that is judged raises the count.
abbrev pub HasCause : ℕ → ℕ → Reading → Status → List ℕ → Type 0
HasCause before now reading st.ReadFault text =
    (before ≤ now) × Rose before now × FailedFile reading (λ name. text ≡ fault_line name)
HasCause before now reading st.WriteFault text = ⊥
HasCause before now reading st.NoMemory text = ⊥
HasCause before now reading status text = now ≡ before

-- the same for a judged text
abbrev pub JudgedHasCause : ℕ → ℕ → Reading → Judged → Type 0
JudgedHasCause before now reading judged = HasCause before now reading judged.status judged.text.items

-- the same for a part, which leaves the count where it read what it is to read
abbrev pub PartHasCause : {T : Type 0} → ℕ → ℕ → Reading → Part T → Type 0
PartHasCause before now reading (part.Read x) = now ≡ before
PartHasCause before now reading (part.Ended judged) = JudgedHasCause before now reading judged
