-- The 16 bytes of a code record, and the record that 16 bytes hold. Assumes nothing.
use Rattle.std.specs.Prelude.{ℕ, ◌*◌, Bool, true, false, if◌then◌else◌, List, [], ◌∷◌, ◌++◌, length, take, drop, ℤ, None, Option, ◌==◌, slice_index}
use Rattle.code.specs.Bytes.{byte_at, i32_at, i32_bytes, u16_at, u16_bytes}
use Rattle.code.specs.Lawful.{all_zero, places_lawful, record_lawful}
use Rattle.code.specs.declared.places.Places.{Places}
use Rattle.code.specs.declared.record.Record.{Record}
use Rattle.code.specs.declared.target.Target.{Target}
use Rattle.code.specs.declared.target.Target.TheVariants.{Rear, At}
use Rattle.records.specs.Operations.{operation, operation_number}
use Rattle.records.specs.declared.operation.Operation.{Operation}
use Rattle.records.specs.Provided.{provided}
use Rattle.std.specs.Option.{option_and_then, option_map}

abbrev pub is_rear : Target → Bool
is_rear Rear = true
is_rear (At p) = false

-- byte 1: the number of places, or 255 for the rear
abbrev pub count_byte : Target → ℕ
count_byte Rear = 255
count_byte (At p) = p.count

-- bytes 8 to 15: four place fields
abbrev pub place_fields : Target → List ℕ
place_fields Rear = 0 ∷ 0 ∷ 0 ∷ 0 ∷ []
place_fields (At p) = p.fields

-- four fields, two bytes each
abbrev pub fields_bytes : List ℕ → List ℕ
fields_bytes fs = u16_bytes (slice_index fs 0) ++ (u16_bytes (slice_index fs 1) ++ (u16_bytes (slice_index fs 2) ++ u16_bytes (slice_index fs 3)))

-- operation, number of places, node, argument, places
abbrev pub layout : Record → List ℕ
layout r =
    operation_number r.operation ∷ count_byte r.target
    ∷ (u16_bytes r.node ++ (i32_bytes r.argument ++ fields_bytes (place_fields r.target)))

-- the places that a number of places and four fields hold, if they are lawful
abbrev pub places_of : ℕ → List ℕ → Option Places
places_of n fs = provided (places_lawful n fs) (λ e. record { count = n; fields = fs; lawful = e })

-- the rear if the number is 255 and the fields are zero, else places
abbrev pub target_of : ℕ → List ℕ → Option Target
target_of n fs =
    if n == 255 then provided (all_zero fs) (λ _. Rear) else option_map At (places_of n fs)

-- a record of these parts, if they go together
abbrev pub record_of : Operation → ℕ → ℤ → Target → Option Record
record_of o n z t =
    provided (record_lawful o n z) (λ e. record { operation = o; node = n; argument = z; target = t; lawful = e })

-- the place fields of 16 bytes
abbrev pub fields_at : List ℕ → List ℕ
fields_at bs = u16_at bs 8 ∷ u16_at bs 10 ∷ u16_at bs 12 ∷ u16_at bs 14 ∷ []

-- the record that a list of 16 bytes holds, if it has that layout
abbrev pub decode : List ℕ → Option Record
decode bs =
    if length bs == 16 then
    option_and_then (λ o. option_and_then (record_of o (u16_at bs 2) (i32_at bs 4)) (target_of (byte_at bs 1) (fields_at bs))) (operation (byte_at bs 0))
    else None

-- the bytes of record i, as far as they are there: they begin at 16 × i
abbrev pub row : List ℕ → ℕ → List ℕ
row code i = take 16 (drop (16 * i) code)

-- record i of code
abbrev pub record_at : List ℕ → ℕ → Option Record
record_at code i = decode (row code i)
