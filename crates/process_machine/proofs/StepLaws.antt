-- What each step keeps.
use Rattle.std.proofs.Common.{◌≡◌, ℕ, zero, suc, ◌+◌, ◌/◌, ◌%◌, ◌^◌, ◌<◌, ◌==◌, List, [], ◌∷◌, length, Option, Some, None, IsSome, is_some, Bool, true, false, replicate, refl, ap, sym, subst, ◌∙◌, arith, slice_get, slice_set, if◌then◌else◌}
use Rattle.std.proofs.lemmas.List.{length-replicate}
use Rattle.std.proofs.Math.Nat.{div-le_self, mod-le, mod-lt}
use Rattle.std.specs.List.{AllByRecursion}
use Rattle.std.proofs.Math.ListN.{length-set}
use Rattle.std.proofs.lemmas.Bool.{ltb-false}
use Rattle.byteorder.specs.Endian.{little_number, little_bytes}
use Rattle.byteorder.specs.Numbers.{little_from-lt}
use Rattle.sprite_ids.specs.declared.errno.Errno.{Errno}
use Rattle.sprite_ids.specs.declared.errno.Errno.TheVariants.{NoEntry, Exists, NotDir, IsDir, NotEmpty, BadFd, BadMode, TooBig, TooMany, Invalid, XDev, Busy, NoChild, NoProcess, Interrupted, NoServer, Unreachable, BadHost, BadName, BadAddress}
use Rattle.sprite_ids.specs.Errno.{errno_number}
use Rattle.process_machine.specs.declared.instruction.Instruction.{Instruction}
use Rattle.process_machine.specs.declared.instruction.Instruction.TheVariants.{Set, Mov, Add, Sub, Mul, Addi, Div, Mod, Ldb, Stb, Ldw, Stw, Jmp, Jeq, Jne, Jlt, Sys}
use Rattle.process_machine.specs.declared.parts.Parts.{Parts}
use Rattle.process_machine.specs.declared.memory.Access.{Access}
use Rattle.process_machine.specs.declared.memory.Access.TheVariants.{Present, Outside, Away}
use Rattle.process_machine.specs.declared.call.Reply.{Reply}
use Rattle.process_machine.specs.declared.call.Reply.TheVariants.{Value, Error}
use Rattle.process_machine.specs.declared.program.Text.{Text}
use Rattle.process_machine.specs.declared.program.Program.{Program}
use Rattle.process_machine.specs.Machine.{Machine, register, put, at_place, with_pages}
use Rattle.process_machine.specs.Memory.{page_of, leaves, in_page, byte_access, word_access, bytes_at, with_bytes}
use Rattle.process_machine.specs.Arguments.{arguments}
use Rattle.process_machine.specs.Parts.{parts_of, refusal, first_away}
use Rattle.process_machine.specs.Steps.{Moved, AtCall, AtBadStep, AtPage, touching, jumped, wanting, calling, done, done_if, step_of}
use Rattle.process_machine.specs.Runs.{ahead}
use Rattle.process_machine.specs.Replies.{three, answered, given_in, given}
use Rattle.process_machine.specs.Fresh.{with_texts, zero_pages, fresh_machine}
use Rattle.process_machine.specs.Facts.{shape, AllPresent, Keeps, AreBytes, HasBytes, InRange, FitsRegister, HasText, ProgramInRange, ReplyInRange}
use Rattle.process_machine.proofs.MemoryLaws.{shape_byte, shape_bytes, same_count, same_present, bytes_byte, bytes_bytes, byte_below, each_below, index_below, present_found, none_away}
use Rattle.std.specs.Int.{byte_at as byte_of, bytes_low_first}
use Rattle.process_machine.proofs.MachineLaws.{ahead_first}
use Rattle.sprite_ids.proofs.ListLaws.{some_is, each_set, each_get, each_replicate}

-- what a step that moves moves to, by the form of the step
pub moved_to : (m n : Machine) → Moved m ≡ Moved n → n ≡ m
moved_to m n e = cc

pub divided_to : (divisor : ℕ) (next n : Machine) (b : Bool) → (if b then AtBadStep else Moved next) ≡ Moved n → n ≡ next
divided_to divisor next n true e = cc
divided_to divisor next n false e = cc

pub touched_to : (access : Access) (next n : Machine) → touching access next ≡ Moved n → n ≡ next
touched_to Present next n e = cc
touched_to Outside next n e = cc
touched_to (Away k) next n e = cc

pub never_moves : (errno : Option Errno) (away : Option ℕ) (pages : List (Option (List ℕ))) (parts : Parts) (n : Machine) → first_away 0 pages parts ≡ away → calling errno pages parts ≡ Moved n → ⊥
never_moves None None pages parts n f e = cc
never_moves None (Some k) pages parts n f e = cc
never_moves (Some errno) away pages parts n f e = cc

-- the images that a step moves to
put_keeps : (m n : Machine) (r value : ℕ) → n ≡ put m r value → Keeps m n
put_keeps m n r value e =
    subst (Keeps m) (sym e) (record { number = refl; registers = length-set m.registers r value; pages = refl })

place_keeps : (m n : Machine) (place : ℕ) → n ≡ at_place m place → Keeps m n
place_keeps m n place e = subst (Keeps m) (sym e) (record { number = refl; registers = refl; pages = refl })

pages_keep : (m n : Machine) (pages : List (Option (List ℕ))) → shape pages ≡ shape m.pages → n ≡ with_pages m pages → Keeps m n
pages_keep m n pages same e = subst (Keeps m) (sym e) (record { number = refl; registers = refl; pages = same })

jumped_keeps : (b : Bool) (m n : Machine) (place : ℕ) → jumped b m place ≡ Moved n → Keeps m n
jumped_keeps true m n place e = place_keeps m n place (moved_to _ n e)
jumped_keeps false m n place e = place_keeps m n (m.counter + 1) (moved_to _ n e)

done_keeps : (i : Instruction) (m n : Machine) → done i m ≡ Moved n → Keeps m n
done_keeps (Set d v) m n e = put_keeps m n d v (moved_to _ n e)
done_keeps (Mov d s) m n e = put_keeps m n d _ (moved_to _ n e)
done_keeps (Add d s) m n e = put_keeps m n d _ (moved_to _ n e)
done_keeps (Sub d s) m n e = put_keeps m n d _ (moved_to _ n e)
done_keeps (Mul d s) m n e = put_keeps m n d _ (moved_to _ n e)
done_keeps (Addi d v) m n e = put_keeps m n d _ (moved_to _ n e)
done_keeps (Div d s) m n e = put_keeps m n d _ (divided_to (register m s) _ n (register m s == 0) e)
done_keeps (Mod d s) m n e = put_keeps m n d _ (divided_to (register m s) _ n (register m s == 0) e)
done_keeps (Ldb d a) m n e = put_keeps m n d _ (touched_to (byte_access m.pages (register m a)) _ n e)
done_keeps (Stb a s) m n e =
    pages_keep m n _ (shape_byte m.pages (register m a) (register m s % 256)) (touched_to (byte_access m.pages (register m a)) _ n e)
done_keeps (Ldw d a) m n e = put_keeps m n d _ (touched_to (word_access m.pages (register m a)) _ n e)
done_keeps (Stw a s) m n e =
    pages_keep m n _ (shape_bytes m.pages (register m a) (little_bytes 8 (register m s))) (touched_to (word_access m.pages (register m a)) _ n e)
done_keeps (Jmp place) m n e = place_keeps m n place (moved_to _ n e)
done_keeps (Jeq a b place) m n e = jumped_keeps _ m n place e
done_keeps (Jne a b place) m n e = jumped_keeps _ m n place e
done_keeps (Jlt a b place) m n e = jumped_keeps _ m n place e
done_keeps (Sys name operands) m n e =
    absurd (never_moves (refusal m.pages (parts_of name (arguments m operands))) _ m.pages (parts_of name (arguments m operands)) n refl e)

done_if_keeps : (i : Option Instruction) (m n : Machine) → done_if i m ≡ Moved n → Keeps m n
done_if_keeps None m n e = cc
done_if_keeps (Some i) m n e = done_keeps i m n e

-- a step keeps the program's number, how many registers there are, and which pages are there and how long each is
pub step_keeps : (p : Program) (m n : Machine) → step_of p m ≡ Moved n → Keeps m n
step_keeps p m n e = done_if_keeps (slice_get p.code m.counter) m n e

pub keeps_same : (m : Machine) → Keeps m m
keeps_same m = record { number = refl; registers = refl; pages = refl }

pub keeps_then : (m n o : Machine) → Keeps m n → Keeps n o → Keeps m o
keeps_then m n o h k =
    record { number = k.number ∙ h.number; registers = k.registers ∙ h.registers; pages = k.pages ∙ h.pages }

-- and so does a run
pub ahead_keeps : (p : Program) (m last : Machine) (n : ℕ) → ahead p m n ≡ Some last → Keeps m last
ahead_keeps p m last zero e = subst (Keeps m) (some_is m last e) (keeps_same m)
ahead_keeps p m last (suc n) e =
    let first = ahead_first p m last n e in
    keeps_then m first.next last (step_keeps p m first.next first.step) (ahead_keeps p first.next last n first.rest)

three_length : (registers : List ℕ) (a b c : ℕ) → length (three registers a b c) ≡ length registers
three_length registers a b c =
    length-set (slice_set (slice_set registers 0 a) 1 b) 2 c ∙ (length-set (slice_set registers 0 a) 1 b ∙ length-set registers 0 a)

answered_keeps : (address : ℕ) (m : Machine) (reply : Reply) → Keeps m (answered address m reply)
answered_keeps address m (Value first second bytes) =
    record {
      number = refl;
      registers = three_length m.registers 0 first second;
      pages = shape_bytes m.pages address bytes;
    }
answered_keeps address m (Error errno) =
    record { number = refl; registers = three_length m.registers (errno_number errno) 0 0; pages = refl }

given_in_keeps : (i : Option Instruction) (m : Machine) (reply : Reply) → Keeps m (given_in i m reply)
given_in_keeps None m reply = keeps_same m
given_in_keeps (Some (Sys name operands)) m reply = answered_keeps _ m reply
given_in_keeps (Some _) m reply = keeps_same m

-- and so does an answer
pub given_keeps : (p : Program) (m : Machine) (reply : Reply) → Keeps m (given p m reply)
given_keeps p m reply = given_in_keeps (slice_get p.code m.counter) m reply

texts_shape : (pages : List (Option (List ℕ))) (texts : List Text) → shape (with_texts pages texts) ≡ shape pages
texts_shape pages [] = refl
texts_shape pages (text ∷ texts) =
    texts_shape (with_bytes pages text.address text.bytes) texts ∙ shape_bytes pages text.address text.bytes

-- a fresh image has the pages that its program asks for
pub fresh_pages : (p : Program) (arg : ℕ) → shape (fresh_machine p arg).pages ≡ shape (zero_pages p.pages)
fresh_pages p arg = texts_shape (zero_pages p.pages) p.texts

pub fresh_count : (p : Program) (arg : ℕ) → length (fresh_machine p arg).pages ≡ p.pages
fresh_count p arg = same_count _ _ (fresh_pages p arg) ∙ length-replicate p.pages _

pub fresh_present : (p : Program) (arg : ℕ) → AllPresent (fresh_machine p arg).pages
fresh_present p arg = same_present _ _ (fresh_pages p arg) (each_replicate IsSome p.pages _ refl)

-- an image whose pages are all there keeps them, and wants none
pub present_ahead : (p : Program) (m last : Machine) (n : ℕ) → AllPresent m.pages → ahead p m n ≡ Some last → AllPresent last.pages
present_ahead p m last n h e = same_present m.pages last.pages (ahead_keeps p m last n e).pages h

pub present_given : (p : Program) (m : Machine) (reply : Reply) → AllPresent m.pages → AllPresent (given p m reply).pages
present_given p m reply h = same_present m.pages _ (given_keeps p m reply).pages h

is_there : (pages : List (Option (List ℕ))) (k : ℕ) → AllPresent pages → k < length pages → IsSome (page_of pages k)
is_there pages k h within = ap is_some (present_found pages k h within).1

no_page_away : (b : Bool) (page : Option (List ℕ)) (k away : ℕ) → (b ≡ false → IsSome page) → (if b then Outside else in_page k page Present) ≡ Away away → ⊥
no_page_away true page k away h e = cc
no_page_away false (Some bytes) k away h e = cc
no_page_away false None k away h e = cc (h refl)

no_byte_away : (pages : List (Option (List ℕ))) (address away : ℕ) → AllPresent pages → byte_access pages address ≡ Away away → ⊥
no_byte_away pages address away h e =
    no_page_away (leaves pages address 1) (page_of pages (address / 4096)) (address / 4096) away
    (λ inside. (let end = ltb-false _ _ inside in is_there pages (address / 4096) h (omega (arith, end)))) e

no_pages_away : (b : Bool) (page other : Option (List ℕ)) (k j away : ℕ) → (b ≡ false → IsSome page) → (b ≡ false → IsSome other) → (if b then Outside else in_page k page (in_page j other Present)) ≡ Away away → ⊥
no_pages_away true page other k j away h i e = cc
no_pages_away false (Some bytes) (Some more) k j away h i e = cc
no_pages_away false None other k j away h i e = cc (h refl)
no_pages_away false (Some bytes) None k j away h i e = cc (i refl)

no_word_away : (pages : List (Option (List ℕ))) (address away : ℕ) → AllPresent pages → word_access pages address ≡ Away away → ⊥
no_word_away pages address away h e =
    no_pages_away (leaves pages address 8) (page_of pages (address / 4096)) (page_of pages ((address + 7) / 4096)) (address / 4096) ((address + 7) / 4096) away
    (λ inside. (let end = ltb-false _ _ inside in is_there pages (address / 4096) h (omega (arith, end))))
    (λ inside. (let end = ltb-false _ _ inside in is_there pages ((address + 7) / 4096) h (omega (arith, end)))) e

touched_away : (access : Access) (next : Machine) (k : ℕ) → touching access next ≡ AtPage k → access ≡ Away k
touched_away Present next k e = cc
touched_away Outside next k e = cc
touched_away (Away j) next k e = (let same : j ≡ k = cc in ap Away same)

divided_away : (next : Machine) (b : Bool) (k : ℕ) → (if b then AtBadStep else Moved next) ≡ AtPage k → ⊥
divided_away next true k e = cc
divided_away next false k e = cc

jumped_away : (b : Bool) (m : Machine) (place k : ℕ) → jumped b m place ≡ AtPage k → ⊥
jumped_away true m place k e = cc
jumped_away false m place k e = cc

called_away : (errno : Option Errno) (pages : List (Option (List ℕ))) (parts : Parts) (k : ℕ) → AllPresent pages → calling errno pages parts ≡ AtPage k → ⊥
called_away None pages parts k h e =
    let none : wanting (first_away 0 pages parts) ≡ AtCall = ap wanting (none_away 0 pages parts h) in cc
called_away (Some errno) pages parts k h e = cc

done_away : (i : Instruction) (m : Machine) (k : ℕ) → AllPresent m.pages → done i m ≡ AtPage k → ⊥
done_away (Div d s) m k h e = divided_away _ (register m s == 0) k e
done_away (Mod d s) m k h e = divided_away _ (register m s == 0) k e
done_away (Ldb d a) m k h e = no_byte_away m.pages (register m a) k h (touched_away _ _ k e)
done_away (Stb a s) m k h e = no_byte_away m.pages (register m a) k h (touched_away _ _ k e)
done_away (Ldw d a) m k h e = no_word_away m.pages (register m a) k h (touched_away _ _ k e)
done_away (Stw a s) m k h e = no_word_away m.pages (register m a) k h (touched_away _ _ k e)
done_away (Jeq a b place) m k h e = jumped_away _ m place k e
done_away (Jne a b place) m k h e = jumped_away _ m place k e
done_away (Jlt a b place) m k h e = jumped_away _ m place k e
done_away (Sys name operands) m k h e = called_away _ m.pages _ k h e
done_away _ m k h e = cc

done_if_away : (i : Option Instruction) (m : Machine) (k : ℕ) → AllPresent m.pages → done_if i m ≡ AtPage k → ⊥
done_if_away None m k h e = cc
done_if_away (Some i) m k h e = done_away i m k h e

pub wants_none : (p : Program) (m : Machine) (k : ℕ) → AllPresent m.pages → step_of p m ≡ AtPage k → ⊥
wants_none p m k h e = done_if_away (slice_get p.code m.counter) m k h e

-- registers of 64 bits and bytes
value_in_range : (m : Machine) (r : ℕ) → InRange m → register m r < 2 ^ 64
value_in_range m r h = index_below (λ v. v < 2 ^ 64) m.registers r (omega arith) h.words

put_in_range : (m n : Machine) (r value : ℕ) → InRange m → value < 2 ^ 64 → n ≡ put m r value → InRange n
put_in_range m n r value h k e =
    subst InRange (sym e) (record {
      eight = length-set m.registers r value ∙ h.eight;
      words = each_set (λ v. v < 2 ^ 64) m.registers r value k h.words;
      bytes = h.bytes;
    })

place_in_range : (m n : Machine) (place : ℕ) → InRange m → n ≡ at_place m place → InRange n
place_in_range m n place h e = subst InRange (sym e) (record { eight = h.eight; words = h.words; bytes = h.bytes })

pages_in_range : (m n : Machine) (pages : List (Option (List ℕ))) → InRange m → AllByRecursion HasBytes pages → n ≡ with_pages m pages → InRange n
pages_in_range m n pages h k e = subst InRange (sym e) (record { eight = h.eight; words = h.words; bytes = k })

jumped_in_range : (b : Bool) (m n : Machine) (place : ℕ) → InRange m → jumped b m place ≡ Moved n → InRange n
jumped_in_range true m n place h e = place_in_range m n place h (moved_to _ n e)
jumped_in_range false m n place h e = place_in_range m n (m.counter + 1) h (moved_to _ n e)

byte_below_256 : (i n : ℕ) → byte_of i n < 256
byte_below_256 zero n = mod-lt n (omega arith)
byte_below_256 (suc i) n = mod-lt (n / 256 ^ suc i) (omega arith)

low_first_bytes : (i n x : ℕ) → AreBytes (bytes_low_first i n x)
low_first_bytes i zero x = tt
low_first_bytes i (suc n) x = (byte_below_256 i x, low_first_bytes (suc i) n x)

word_below : (bytes : List ℕ) → AreBytes bytes → little_number 8 bytes < 2 ^ 64
word_below bytes h = little_from-lt 0 8 bytes (λ k. index_below (λ b. b < 256) bytes k (omega arith) h)

quotient_below : (a b limit : ℕ) → a < limit → a / b < limit
quotient_below a b limit h = let least = div-le_self a b in omega arith

rest_below : (a b limit : ℕ) → a < limit → a % b < limit
rest_below a b limit h = let least = mod-le a b in omega arith

done_in_range : (i : Instruction) (m n : Machine) → FitsRegister i → InRange m → done i m ≡ Moved n → InRange n
done_in_range (Set d v) m n f h e = put_in_range m n d v h f (moved_to _ n e)
done_in_range (Mov d s) m n f h e = put_in_range m n d _ h (value_in_range m s h) (moved_to _ n e)
done_in_range (Add d s) m n f h e = put_in_range m n d _ h (mod-lt _ (omega arith)) (moved_to _ n e)
done_in_range (Sub d s) m n f h e = put_in_range m n d _ h (mod-lt _ (omega arith)) (moved_to _ n e)
done_in_range (Mul d s) m n f h e = put_in_range m n d _ h (mod-lt _ (omega arith)) (moved_to _ n e)
done_in_range (Addi d v) m n f h e = put_in_range m n d _ h (mod-lt _ (omega arith)) (moved_to _ n e)
done_in_range (Div d s) m n f h e =
    put_in_range m n d _ h (quotient_below (register m d) (register m s) _ (value_in_range m d h)) (divided_to (register m s) _ n (register m s == 0) e)
done_in_range (Mod d s) m n f h e =
    put_in_range m n d _ h (rest_below (register m d) (register m s) _ (value_in_range m d h)) (divided_to (register m s) _ n (register m s == 0) e)
done_in_range (Ldb d a) m n f h e =
    let byte = byte_below m.pages (register m a) h.bytes in
    put_in_range m n d _ h (omega (arith, byte)) (touched_to (byte_access m.pages (register m a)) _ n e)
done_in_range (Stb a s) m n f h e =
    pages_in_range m n _ h (bytes_byte m.pages (register m a) (register m s % 256) h.bytes (mod-lt (register m s) (omega arith))) (touched_to (byte_access m.pages (register m a)) _ n e)
done_in_range (Ldw d a) m n f h e =
    put_in_range m n d _ h (word_below (bytes_at m.pages (register m a) 8) (each_below m.pages (register m a) 8 h.bytes)) (touched_to (word_access m.pages (register m a)) _ n e)
done_in_range (Stw a s) m n f h e =
    pages_in_range m n _ h (bytes_bytes m.pages (register m a) (little_bytes 8 (register m s)) h.bytes (low_first_bytes 0 8 (register m s))) (touched_to (word_access m.pages (register m a)) _ n e)
done_in_range (Jmp place) m n f h e = place_in_range m n place h (moved_to _ n e)
done_in_range (Jeq a b place) m n f h e = jumped_in_range _ m n place h e
done_in_range (Jne a b place) m n f h e = jumped_in_range _ m n place h e
done_in_range (Jlt a b place) m n f h e = jumped_in_range _ m n place h e
done_in_range (Sys name operands) m n f h e =
    absurd (never_moves (refusal m.pages (parts_of name (arguments m operands))) _ m.pages (parts_of name (arguments m operands)) n refl e)

done_if_in_range : (p : Program) (i : Option Instruction) (m n : Machine) → slice_get p.code m.counter ≡ i → ProgramInRange p → InRange m → done_if i m ≡ Moved n → InRange n
done_if_in_range p None m n found f h e = cc
done_if_in_range p (Some i) m n found f h e = done_in_range i m n (each_get FitsRegister p.code m.counter i f.code found) h e

-- a step keeps registers of 64 bits and pages of bytes
pub step_in_range : (p : Program) (m n : Machine) → ProgramInRange p → InRange m → step_of p m ≡ Moved n → InRange n
step_in_range p m n f h e = done_if_in_range p (slice_get p.code m.counter) m n refl f h e

-- and so does a run
pub ahead_in_range : (p : Program) (m last : Machine) (n : ℕ) → ProgramInRange p → InRange m → ahead p m n ≡ Some last → InRange last
ahead_in_range p m last zero f h e = subst InRange (some_is m last e) h
ahead_in_range p m last (suc n) f h e =
    let first = ahead_first p m last n e in
    ahead_in_range p first.next last n f (step_in_range p m first.next f h first.step) first.rest

three_words : (registers : List ℕ) (a b c : ℕ) → AllByRecursion (λ v. v < 2 ^ 64) registers → a < 2 ^ 64 → b < 2 ^ 64 → c < 2 ^ 64 → AllByRecursion (λ v. v < 2 ^ 64) (three registers a b c)
three_words registers a b c h i j k =
    let P : ℕ → Type 0 = λ v. v < 2 ^ 64 in
    each_set P _ 2 c k (each_set P _ 1 b j (each_set P registers 0 a i h))

errno_below : (errno : Errno) → errno_number errno < 2 ^ 64
errno_below NoEntry = omega arith
errno_below Exists = omega arith
errno_below NotDir = omega arith
errno_below IsDir = omega arith
errno_below NotEmpty = omega arith
errno_below BadFd = omega arith
errno_below BadMode = omega arith
errno_below TooBig = omega arith
errno_below TooMany = omega arith
errno_below Invalid = omega arith
errno_below XDev = omega arith
errno_below Busy = omega arith
errno_below NoChild = omega arith
errno_below NoProcess = omega arith
errno_below Interrupted = omega arith
errno_below NoServer = omega arith
errno_below Unreachable = omega arith
errno_below BadHost = omega arith
errno_below BadName = omega arith
errno_below BadAddress = omega arith

answered_in_range : (address : ℕ) (m : Machine) (reply : Reply) → InRange m → ReplyInRange reply → InRange (answered address m reply)
answered_in_range address m (Value first second bytes) h k =
    record {
      eight = three_length m.registers 0 first second ∙ h.eight;
      words = three_words m.registers 0 first second h.words (omega arith) k.0 k.1;
      bytes = bytes_bytes m.pages address bytes h.bytes k.2;
    }
answered_in_range address m (Error errno) h k =
    record {
      eight = three_length m.registers (errno_number errno) 0 0 ∙ h.eight;
      words = three_words m.registers (errno_number errno) 0 0 h.words (errno_below errno) (omega arith) (omega arith);
      bytes = h.bytes;
    }

given_in_in_range : (i : Option Instruction) (m : Machine) (reply : Reply) → InRange m → ReplyInRange reply → InRange (given_in i m reply)
given_in_in_range None m reply h k = h
given_in_in_range (Some (Sys name operands)) m reply h k = answered_in_range _ m reply h k
given_in_in_range (Some _) m reply h k = h

-- and so does an answer
pub given_in_range : (p : Program) (m : Machine) (reply : Reply) → InRange m → ReplyInRange reply → InRange (given p m reply)
given_in_range p m reply h k = given_in_in_range (slice_get p.code m.counter) m reply h k

texts_bytes : (pages : List (Option (List ℕ))) (texts : List Text) → AllByRecursion HasBytes pages → AllByRecursion HasText texts → AllByRecursion HasBytes (with_texts pages texts)
texts_bytes pages [] h k = h
texts_bytes pages (text ∷ texts) h k =
    texts_bytes (with_bytes pages text.address text.bytes) texts (bytes_bytes pages text.address text.bytes h k.0) k.1

-- a fresh image has them
pub fresh_in_range : (p : Program) (arg : ℕ) → ProgramInRange p → arg < 2 ^ 64 → InRange (fresh_machine p arg)
fresh_in_range p arg f h =
    let zeros : AreBytes (replicate 4096 0) = each_replicate (λ b. b < 256) 4096 0 (omega arith) in
    let P : ℕ → Type 0 = λ v. v < 2 ^ 64 in
    record {
      eight = refl;
      words = each_set P (replicate 8 0) 1 arg h (each_replicate P 8 0 (omega arith));
      bytes = texts_bytes (zero_pages p.pages) p.texts (each_replicate HasBytes p.pages (Some (replicate 4096 0)) zeros) f.texts;
    }
