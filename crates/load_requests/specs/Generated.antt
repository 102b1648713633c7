-- The requests of a load.
use Rattle.std.specs.Prelude.{ℕ, zero, suc, ◌+◌, ◌/◌, ◌%◌, ◌==◌, List, [], ◌∷◌, replicate, if◌then◌else◌, slice_index_or}
use Rattle.fs_model.specs.declared.model.Request.{Request}
use Rattle.fs_model.specs.declared.model.Request.TheVariants as requests
use Rattle.load_requests.specs.declared.generator.TheConstants.{STARTS, KEYS}
use Rattle.load_requests.specs.declared.generator.Operation.{Operation}
use Rattle.load_requests.specs.declared.generator.Operation.TheVariants.{Put, Get, Delete}

-- by the sum of key and round, modulo 8
abbrev pub operation_of : ℕ → ℕ → Operation
operation_of key round = slice_index_or (Put ∷ Put ∷ Get ∷ Put ∷ Get ∷ Delete ∷ Get ∷ Put ∷ [])
    ((key + round) % 8) Put

-- in bytes
abbrev pub value_length : ℕ → ℕ
value_length key = if key % 64 == 0 then 300 else (key % 32 + 1)

abbrev pub value_of : ℕ → ℕ → List ℕ
value_of key turn = replicate (value_length key) (97 + turn % 26)

abbrev pub request_with : Operation → ℕ → List ℕ → Request
request_with Put key value = requests.Put key value
request_with Get key value = requests.Get key
request_with Delete key value = requests.Delete key

-- the request of a turn: its key and its round are the turn's
abbrev pub request_at_turn : ℕ → Request
request_at_turn turn = request_with (operation_of (turn % KEYS) (turn / KEYS)) (turn % KEYS)
    (value_of (turn % KEYS) turn)

-- the request with this number of a load from `start` on
abbrev pub request_of : ℕ → ℕ → Request
request_of start number = request_at_turn (start % STARTS + number)

-- so many, from this number on
abbrev pub requests_from : ℕ → ℕ → ℕ → List Request
requests_from start first zero = []
requests_from start first (suc n) = request_of start first ∷ requests_from start (first + 1) n

-- all requests of a load
abbrev pub requests_of_load : ℕ → ℕ → List Request
requests_of_load start count = requests_from start 0 count
