-- Why texts and facts cannot be read.
use Rattle.std.specs.Prelude.{◌≡◌, ◌≢◌, ◌⊎◌, ◌+◌, ℕ, List, [], ◌∷◌, map}
use Rattle.std.specs.{Borrow.Bor, Str.IsUtf8}
use Rattle.cfgx_syntax.specs.Error.{Fault, cause_of}
use Rattle.cfgx_syntax.specs.Stripping.{strip, strip_offset}
use Rattle.cfgx_syntax.specs.declared.stripping.Stripped.{Stripped}
use Rattle.cfgx_syntax.specs.declared.error.Failure.{Failure}
use Rattle.cfgx_syntax.specs.declared.error.Failure.TheVariants as failure
use Rattle.cfgx_syntax.specs.declared.error.ParseError.{ParseError}
use Rattle.cfgx_c.specs.Faults.{IsFirst, Tells, c_fault, no_fault}
use Rattle.cfgx_c.specs.Status.{IsOneOf, faulty, faulty_fact, not_utf8, out_of_memory}
use Rattle.cfgx_c.specs.declared.fault.CfgxFault.{CfgxFault}
use Rattle.cfgx_c.specs.declared.fault.Refusal.{Refusal}

-- this is left of the text without its outer `cfg( )`
pub record IsStripped (text : List ℕ) (stripped : Stripped) : Type 0 where
  pub text_is : stripped.text.now ≡ strip text
  pub offset_is : stripped.offset ≡ strip_offset text

-- what slices hold, without where they lie in memory
abbrev pub views : {T : Type 0} → List (Bor T) → List T
views slices = map (λ slice. slice.now) slices

-- a refusal that is about no text and no fact
abbrev pub plain : ℕ → Refusal
plain status = record { status = status; fault = no_fault }

-- the fault of an error
abbrev pub fault_at : {A : Type 0} → ParseError A → Fault
fault_at error = record {
  cause = cause_of error.reason;
  start = error.span.start;
  end = error.span.end;
}

-- why the text with this number cannot be read; `offset` bytes stand before the stripped text
abbrev pub text_refusal : {A : Type 0} → ℕ → ℕ → Failure A → Refusal
text_refusal item offset (failure.Parse error) = record {
  status = faulty;
  fault = c_fault item offset (fault_at error);
}
text_refusal item offset (failure.Memory refused) = plain out_of_memory

-- the refusal has the status, and this is so of its fault; or memory was refused
abbrev pub IsAbout : ℕ → (CfgxFault → Type 0) → Refusal → Type 0
IsAbout status Is refusal =
    (refusal ≡ plain out_of_memory) ⊎ ((refusal.status ≡ status) × Is refusal.fault)

-- the fault is that of the first item that is not good
abbrev pub IsThatOfFirst : (List ℕ → Type 0) → (List ℕ → CfgxFault → Type 0) → List (List ℕ)
    → CfgxFault → Type 0
IsThatOfFirst Good Has items fault = IsFirst Good Has items fault.item fault

-- the same if the numbers of the items begin at `begin`
abbrev pub IsFirstFrom : ℕ → (List ℕ → Type 0) → (List ℕ → CfgxFault → Type 0) → List (List ℕ)
    → CfgxFault → Type 0
IsFirstFrom begin Good Has items fault =
    (index : ℕ) × (fault.item ≡ begin + index) × IsFirst Good Has items index fault

-- the statuses of a call that cannot read a text
abbrev pub text_statuses : List ℕ
text_statuses = faulty ∷ not_utf8 ∷ out_of_memory ∷ []

-- the refusal of a call that cannot read its facts or its texts
pub record Refuses (facts texts : List (List ℕ)) (refusal : Refusal) : Type 0 where
  pub tells : Tells facts texts refusal.status refusal.fault
  pub fails : IsOneOf refusal.status (faulty_fact ∷ text_statuses)

-- the refusal of a call that cannot read its text, with one of these statuses
pub record RefusesText (text : List ℕ) (statuses : List ℕ) (refusal : Refusal) : Type 0 where
  pub tells : Tells [] (text ∷ []) refusal.status refusal.fault
  pub utf8 : refusal.status ≢ not_utf8 → IsUtf8 text
  pub fails : IsOneOf refusal.status statuses
