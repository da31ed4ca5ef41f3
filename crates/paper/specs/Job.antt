-- DEFINITIONS. 01, "The job: records of 16 bytes, no header": record i brings one pad and one port. 02 adds "a second job form: pad records as before with the last
-- field 0, and a separate list of 4-byte port heights, no header". A job is given by its bytes, each 0 to 255.
use Rattle.std.specs.Prelude.{cond, List, [], ◌∷◌, ◌++◌, ℕ, ◌+◌, ◌*◌, ◌-◌, ◌/◌, ◌%◌, ltb, length, get_or, ℤ, pos, negsuc, ◌-ℤ◌}
use Rattle.paper.specs.declared.Form.{Form}
use Rattle.paper.specs.declared.Form.TheVariants.{Records, Slots}

-- A job: its records; or its pads' records and its port heights.
pub data Job : Type 0 where
  records : List ℕ → Job
  slots : List ℕ → List ℕ → Job

-- Its form, the bytes of its pads, and the bytes in which its ports stand. Records are their own port list.
abbrev pub form_of : Job → Form
form_of (records bytes) = Records
form_of (slots pads ports) = Slots

abbrev pub pads_of : Job → List ℕ
pads_of (records bytes) = bytes
pads_of (slots pads ports) = pads

abbrev pub ports_of : Job → List ℕ
ports_of (records bytes) = bytes
ports_of (slots pads ports) = ports

-- All numbers are little-endian: the number in the 2 bytes, and in the 4 bytes, from place k on.
abbrev pub u16_at : List ℕ → ℕ → ℕ
u16_at bytes k = get_or bytes k 0 + 256 * get_or bytes (k + 1) 0

abbrev pub u32_at : List ℕ → ℕ → ℕ
u32_at bytes k = u16_at bytes k + 65536 * u16_at bytes (k + 2)

-- Two's complement: 32 bits from 2 ^ 31 on stand for the number less 2 ^ 32.
unfoldable pub twos : ℕ → ℤ
twos n = cond (ltb n 2147483648) (pos n) (pos n -ℤ pos 4294967296)

-- How many records there are, and the fields of record i.
abbrev pub count : List ℕ → ℕ
count pads = length pads / 16

unfoldable pub name_of : List ℕ → ℕ → ℕ
name_of pads i = u16_at pads (16 * i)

-- 02: "The reserved field becomes the pad's half-side."
unfoldable pub half_of : List ℕ → ℕ → ℕ
half_of pads i = u16_at pads (16 * i + 2)

unfoldable pub x_of : List ℕ → ℕ → ℕ
x_of pads i = u32_at pads (16 * i + 4)

unfoldable pub y_of : List ℕ → ℕ → ℤ
y_of pads i = twos (u32_at pads (16 * i + 8))

unfoldable pub last_of : List ℕ → ℕ → ℕ
last_of pads i = u32_at pads (16 * i + 12)

-- Port heights stand so many bytes apart, the first one at that place: in records the last field is the port's height.
abbrev pub stride_of : Form → ℕ
stride_of Records = 16
stride_of Slots = 4

abbrev pub offset_of : Form → ℕ
offset_of Records = 12
offset_of Slots = 0

-- How many ports there are, and the height of port q.
abbrev pub port_count : Form → List ℕ → ℕ
port_count form ports = length ports / stride_of form

unfoldable pub port_of : Form → List ℕ → ℕ → ℤ
port_of form ports q = twos (u32_at ports (stride_of form * q + offset_of form))

-- ---- in writing

-- 4 bytes, lowest first; and a record of a name and a half-side, a pad (x, y) and a port height.
abbrev pub bytes4 : ℕ → List ℕ
bytes4 n = n % 256 ∷ n / 256 % 256 ∷ n / 65536 % 256 ∷ n / 16777216 ∷ []

abbrev pub square_and_port : ℕ → ℕ → ℕ → ℕ → ℕ → List ℕ
square_and_port name half x y port = bytes4 (name + 65536 * half) ++ bytes4 x ++ bytes4 y ++ bytes4 port

-- A height in 32 bits, two's complement.
abbrev pub bits : ℤ → ℕ
bits (pos n) = n
bits (negsuc n) = 4294967295 - n
