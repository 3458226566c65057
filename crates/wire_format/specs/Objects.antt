-- How paths, images, grants, streams and calls are spelled.
use Rattle.std.specs.Prelude.{◌≡◌, ℕ, ◌<◌, ◌^◌, ◌==◌, nat_le, Bool, true, ◌&&◌, List, [], ◌∷◌, length, Option, Some, None}
use Rattle.std.specs.List.{AllByRecursion, list_all}
use Rattle.sprite_paths.specs.Path.{text_of, IsPath}
use Rattle.process_machine.specs.Machine.{Machine, ArePages}
use Rattle.sprite_ids.specs.declared.BlockNo.{BlockNo}
use Rattle.sprite_ids.specs.declared.TxNo.{TxNo}
use Rattle.sprite_ids.specs.declared.Grant.{Grant}
use Rattle.sprite_ids.specs.declared.Flushed.{Flushed}
use Rattle.packet_bodies.specs.declared.Target.{Target}
use Rattle.packet_bodies.specs.declared.CarriedStream.{CarriedStream}
use Rattle.packet_bodies.specs.declared.HomeCall.{HomeCall}
use Rattle.packet_bodies.specs.declared.Target.TheVariants.{File, Device}
use Rattle.packet_bodies.specs.declared.HomeCall.TheVariants.{Print, Exit, Getppid, Host, Tick, Fork, Wait, Kill}
use Rattle.field_reader.specs.Paths.{path_of}
use Rattle.wire_format.specs.Codec.{Codec, byte, number16, number32, number64, text, optional, listed, repeated, nothing, Shape, form, Row, row, tagged, ◌before◌, made_of, chosen_by, within}
use Rattle.wire_format.specs.Names.{pid, file, device, stream, truth}
use Rattle.wire_format.specs.Choices.{carried_mode, caching}

-- ---- names

abbrev pub block : Codec BlockNo
block = made_of number16 (λ n. record { 0 = n }) (λ b. b.0)

abbrev pub transaction : Codec TxNo
transaction = made_of number32 (λ n. record { 0 = n }) (λ tx. tx.0)

-- ---- paths

abbrev pub path : Codec (List (List ℕ))
path = chosen_by text path_of text_of IsPath

-- ---- images

abbrev pub is_page : Option (List ℕ) → Bool
is_page None = true
is_page (Some bytes) = length bytes == 4096

-- 1 to 8 pages, each away or of 4,096 bytes
abbrev pub are_pages : List (Option (List ℕ)) → Bool
are_pages pages = nat_le 1 (length pages) && nat_le (length pages) 8 && list_all is_page pages

abbrev pub machine_parts : Codec Machine
machine_parts = made_of (byte before number16 before repeated 8 number64 before listed (optional text))
    (λ p. record { number = p.0; counter = p.1.0; registers = p.1.1.0; pages = p.1.1.1 })
    (λ m. (m.number, (m.counter, (m.registers, m.pages))))

-- the numbers are in their ranges, and the pages are an image's
pub record IsImage (m : Machine) : Type 0 where
  pub number : m.number < 256
  pub counter : m.counter < 2 ^ 16
  pub eight : length m.registers ≡ 8
  pub registers : AllByRecursion (λ n. n < 2 ^ 64) m.registers
  pub pages : ArePages m.pages

abbrev pub image : Codec Machine
image = within machine_parts (λ m. are_pages m.pages) IsImage

-- ---- grants and blocks

abbrev pub grant : Codec Grant
grant = made_of (file before number32 before number32 before number32 before number32 before caching before truth)
    (λ p. record { file = p.0; stamp = p.1.0; old = p.1.1.0; new = p.1.1.1.0; size = p.1.1.1.1.0; on = p.1.1.1.1.1.0; holder = p.1.1.1.1.1.1 })
    (λ r. (r.file, (r.stamp, (r.old, (r.new, (r.size, (r.on, r.holder)))))))

abbrev pub flushed : Codec Flushed
flushed = made_of (number32 before listed (block before text))
    (λ p. record { size = p.0; blocks = p.1 })
    (λ r. (r.size, r.blocks))

-- ---- what streams lead to

abbrev pub target_shape : Target → Shape
target_shape (File f) = form 1 file f
target_shape (Device d) = form 2 device d

abbrev pub target : Codec Target
target = tagged target_shape (row 1 file File ∷ row 2 device Device ∷ [])

abbrev pub carried_stream : Codec CarriedStream
carried_stream = made_of (stream before target before carried_mode before optional number32 before optional grant before number32)
    (λ p. record { stream = p.0; object = p.1.0; mode = p.1.1.0; offset = p.1.1.1.0; grant = p.1.1.1.1.0; grants = p.1.1.1.1.1 })
    (λ r. (r.stream, (r.object, (r.mode, (r.offset, (r.grant, r.grants))))))

-- ---- calls that are done at a home, by their places in the table of system calls

abbrev pub home_call_shape : HomeCall → Shape
home_call_shape (Print bytes) = form 1 text bytes
home_call_shape (Exit code) = form 2 number64 code
home_call_shape Getppid = form 4 nothing tt
home_call_shape (Host max) = form 5 number64 max
home_call_shape Tick = form 6 nothing tt
home_call_shape Fork = form 7 nothing tt
home_call_shape Wait = form 9 nothing tt
home_call_shape (Kill p) = form 10 pid p

abbrev pub home_call_rows : List (Row HomeCall)
home_call_rows =
    row 1 text Print ∷
    row 2 number64 Exit ∷
    row 4 nothing (λ x. Getppid) ∷
    row 5 number64 Host ∷
    row 6 nothing (λ x. Tick) ∷
    row 7 nothing (λ x. Fork) ∷
    row 9 nothing (λ x. Wait) ∷
    row 10 pid Kill ∷
    []

abbrev pub home_call : Codec HomeCall
home_call = tagged home_call_shape home_call_rows
