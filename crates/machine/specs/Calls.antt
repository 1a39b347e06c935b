-- What a store was asked, call by call.
use Rattle.std.specs.Prelude.{ℕ, List, [], ◌∷◌, ◌++◌, Option, Some, None, Result, Ok, Err}
use Rattle.std.specs.Borrow.{GName}
use Rattle.modver.specs.SemanticVersion.{SemanticVersion, version_text}
use Rattle.world.specs.declared.registry.StoreFault.{StoreFault}
use Rattle.machine.specs.declared.traced_shelves.Method.{Method}
use Rattle.machine.specs.declared.traced_shelves.Method.TheVariants as method
use Rattle.machine.specs.declared.traced_shelves.Outcome.{Outcome}

-- What a call asks: with which key or of which shelf, at which path and of which version. A text is empty where the
-- method takes none.
pub record Question : Type 0 where
  pub method : Method
  pub of : List ℕ
  pub path : List ℕ
  pub version : List ℕ

-- A call, and the fault that it met, if it met one.
pub record Call : Type 0 where
  pub question : Question
  pub fault : Option StoreFault

-- The calls that were made so far, the oldest first, and the loan by which the store came, which stays one loan.
pub record History : Type 0 where
  pub calls : List Call
  pub source : GName

-- the call with this key or of this shelf, at this path and version, that had this outcome
abbrev pub call_by : List ℕ → List ℕ → List ℕ → Outcome → Call
call_by of path version outcome =
    record {
      question = record { method = outcome.method; of = of; path = path; version = version };
      fault = outcome.fault;
    }

-- the history with one call more
abbrev pub noted : History → Question → Option StoreFault → History
noted h q met = record { calls = h.calls ++ (record { question = q; fault = met }) ∷ []; source = h.source }

-- the fault of a call, if it met one
abbrev pub fault_of : {T : Type 0} → Result T StoreFault → Option StoreFault
fault_of (Ok x) = None
fault_of (Err e) = Some e

-- ---- questions

abbrev pub of_key : List ℕ → Question
of_key k = record { method = method.Key; of = k; path = []; version = [] }

abbrev pub entry_of : List ℕ → List ℕ → SemanticVersion → Question
entry_of s p v = record { method = method.Entry; of = s; path = p; version = version_text v }

abbrev pub heading_of : List ℕ → List ℕ → SemanticVersion → Question
heading_of s p v = record { method = method.Heading; of = s; path = p; version = version_text v }

abbrev pub comparison : List ℕ → List ℕ → SemanticVersion → Question
comparison s p v = record { method = method.Compare; of = s; path = p; version = version_text v }

abbrev pub versions_at : List ℕ → List ℕ → Question
versions_at s p = record { method = method.Versions; of = s; path = p; version = [] }

abbrev pub latest_at : List ℕ → List ℕ → Question
latest_at s p = record { method = method.Latest; of = s; path = p; version = [] }

abbrev pub paths_on : List ℕ → Question
paths_on s = record { method = method.Paths; of = s; path = []; version = [] }

abbrev pub count_of : List ℕ → List ℕ → Question
count_of s p = record { method = method.Count; of = s; path = p; version = [] }

abbrev pub insertion : List ℕ → List ℕ → SemanticVersion → Question
insertion s p v = record { method = method.Insert; of = s; path = p; version = version_text v }
