-- The tests of calls and replies tell whether they are equal.
use Rattle.std.proofs.Common.{◌≡◌, ℕ, Bool, true, false, List, Some, refl, sym, ap, ◌∙◌}
use Rattle.std.specs.Prelude.{◌==◌, ◌&&◌}
use Rattle.std.specs.Cmp.Lexicographic.{bytes_decides}
use Rattle.std.proofs.lemmas.Bool.{eq-eqb, eqb-true, true≢false}
use Rattle.sprite_ids.specs.Errno.{errno_number}
use Rattle.sprite_ids.specs.declared.errno.Errno.{Errno}
use Rattle.sprite_ids.specs.declared.errno.Errno.TheVariants as errno
use Rattle.sprite_ids.proofs.ListLaws.{some_is}
use Rattle.process_machine.specs.declared.call.Call.{Call}
use Rattle.process_machine.specs.declared.call.Call.TheVariants as call
use Rattle.process_machine.specs.declared.call.Reply.{Reply}
use Rattle.process_machine.specs.declared.call.Reply.TheVariants.{Value, Error}
use Rattle.unix_calls.specs.Same.{same_text, same_call, same_reply}
use Rattle.unix_calls.specs.DeviceCalls.{errno_of}

and_left : (a b : Bool) → (a && b) ≡ true → a ≡ true
and_left true b h = refl
and_left false b h = h

and_right : (a b : Bool) → (a && b) ≡ true → b ≡ true
and_right true b h = h
and_right false b h = absurd (true≢false (sym h))

ap2 : {A B C : Type 0} (f : A → B → C) {a x : A} {b y : B} → a ≡ x → b ≡ y → f a b ≡ f x y
ap2 f p q = λ i. f (p i) (q i)

and_both : {a b : Bool} → a ≡ true → b ≡ true → (a && b) ≡ true
and_both x y = ap2 (λ (a b : Bool). a && b) x y

ap3 : {A B C D : Type 0} (f : A → B → C → D) {a x : A} {b y : B} {c z : C} → a ≡ x → b ≡ y → c ≡ z → f a b c ≡ f x y z
ap3 f p q r = λ i. f (p i) (q i) (r i)

text_is : (xs ys : List ℕ) → same_text xs ys ≡ true → xs ≡ ys
text_is xs ys h = (bytes_decides xs ys).0 h

text_same : (xs : List ℕ) → same_text xs xs ≡ true
text_same xs = (bytes_decides xs xs).1 refl

-- an error is told by its number
pub errno_again : (e : Errno) → errno_of (errno_number e) ≡ Some e
errno_again errno.NoEntry = refl
errno_again _ = refl

pub errno_is : (e f : Errno) → (errno_number e == errno_number f) ≡ true → e ≡ f
errno_is e f h = some_is e f (sym (errno_again e) ∙ (ap errno_of (eqb-true (errno_number e) (errno_number f) h) ∙ errno_again f))

pub call_is : (one two : Call) → same_call one two ≡ true → one ≡ two
call_is (call.Print a) (call.Print x) h = ap call.Print (text_is a x h)
call_is (call.Print a) _ h = absurd (true≢false (sym h))
call_is (call.Exit a) (call.Exit x) h = ap call.Exit (eqb-true a x h)
call_is (call.Exit a) _ h = absurd (true≢false (sym h))
call_is call.Getpid call.Getpid h = refl
call_is call.Getpid _ h = absurd (true≢false (sym h))
call_is call.Getppid call.Getppid h = refl
call_is call.Getppid _ h = absurd (true≢false (sym h))
call_is (call.Host a) (call.Host x) h = ap call.Host (eqb-true a x h)
call_is (call.Host a) _ h = absurd (true≢false (sym h))
call_is call.Tick call.Tick h = refl
call_is call.Tick _ h = absurd (true≢false (sym h))
call_is call.Fork call.Fork h = refl
call_is call.Fork _ h = absurd (true≢false (sym h))
call_is (call.Exec a b) (call.Exec x y) h = ap2 call.Exec (text_is a x (and_left (same_text a x) (b == y) h)) (eqb-true b y (and_right (same_text a x) (b == y) h))
call_is (call.Exec a b) _ h = absurd (true≢false (sym h))
call_is call.Wait call.Wait h = refl
call_is call.Wait _ h = absurd (true≢false (sym h))
call_is (call.Kill a) (call.Kill x) h = ap call.Kill (eqb-true a x h)
call_is (call.Kill a) _ h = absurd (true≢false (sym h))
call_is (call.OpenFile a b) (call.OpenFile x y) h = ap2 call.OpenFile (text_is a x (and_left (same_text a x) (b == y) h)) (eqb-true b y (and_right (same_text a x) (b == y) h))
call_is (call.OpenFile a b) _ h = absurd (true≢false (sym h))
call_is (call.Close a) (call.Close x) h = ap call.Close (eqb-true a x h)
call_is (call.Close a) _ h = absurd (true≢false (sym h))
call_is (call.Dup a) (call.Dup x) h = ap call.Dup (eqb-true a x h)
call_is (call.Dup a) _ h = absurd (true≢false (sym h))
call_is (call.Read a b) (call.Read x y) h = ap2 call.Read (eqb-true a x (and_left (a == x) (b == y) h)) (eqb-true b y (and_right (a == x) (b == y) h))
call_is (call.Read a b) _ h = absurd (true≢false (sym h))
call_is (call.Write a b) (call.Write x y) h = ap2 call.Write (eqb-true a x (and_left (a == x) (same_text b y) h)) (text_is b y (and_right (a == x) (same_text b y) h))
call_is (call.Write a b) _ h = absurd (true≢false (sym h))
call_is (call.Seek a b) (call.Seek x y) h = ap2 call.Seek (eqb-true a x (and_left (a == x) (b == y) h)) (eqb-true b y (and_right (a == x) (b == y) h))
call_is (call.Seek a b) _ h = absurd (true≢false (sym h))
call_is (call.Size a) (call.Size x) h = ap call.Size (eqb-true a x h)
call_is (call.Size a) _ h = absurd (true≢false (sym h))
call_is (call.Sync a) (call.Sync x) h = ap call.Sync (eqb-true a x h)
call_is (call.Sync a) _ h = absurd (true≢false (sym h))
call_is (call.Stat a) (call.Stat x) h = ap call.Stat (text_is a x h)
call_is (call.Stat a) _ h = absurd (true≢false (sym h))
call_is (call.Mkdir a) (call.Mkdir x) h = ap call.Mkdir (text_is a x h)
call_is (call.Mkdir a) _ h = absurd (true≢false (sym h))
call_is (call.Rmdir a) (call.Rmdir x) h = ap call.Rmdir (text_is a x h)
call_is (call.Rmdir a) _ h = absurd (true≢false (sym h))
call_is (call.Unlink a) (call.Unlink x) h = ap call.Unlink (text_is a x h)
call_is (call.Unlink a) _ h = absurd (true≢false (sym h))
call_is (call.Rename a b) (call.Rename x y) h = ap2 call.Rename (text_is a x (and_left (same_text a x) (same_text b y) h)) (text_is b y (and_right (same_text a x) (same_text b y) h))
call_is (call.Rename a b) _ h = absurd (true≢false (sym h))
call_is (call.List a b) (call.List x y) h = ap2 call.List (text_is a x (and_left (same_text a x) (b == y) h)) (eqb-true b y (and_right (same_text a x) (b == y) h))
call_is (call.List a b) _ h = absurd (true≢false (sym h))
call_is (call.Chdir a) (call.Chdir x) h = ap call.Chdir (text_is a x h)
call_is (call.Chdir a) _ h = absurd (true≢false (sym h))
call_is (call.Migrate a) (call.Migrate x) h = ap call.Migrate (text_is a x h)
call_is (call.Migrate a) _ h = absurd (true≢false (sym h))
call_is (call.PdMake a) (call.PdMake x) h = ap call.PdMake (text_is a x h)
call_is (call.PdMake a) _ h = absurd (true≢false (sym h))
call_is (call.PdGet a b) (call.PdGet x y) h = ap2 call.PdGet (eqb-true a x (and_left (a == x) (b == y) h)) (eqb-true b y (and_right (a == x) (b == y) h))
call_is (call.PdGet a b) _ h = absurd (true≢false (sym h))
call_is (call.PdPut a b c) (call.PdPut x y z) h = ap3 call.PdPut (eqb-true a x (and_left (a == x) (same_text b y) (and_left (a == x && same_text b y) (c == z) h))) (text_is b y (and_right (a == x) (same_text b y) (and_left (a == x && same_text b y) (c == z) h))) (eqb-true c z (and_right (a == x && same_text b y) (c == z) h))
call_is (call.PdPut a b c) _ h = absurd (true≢false (sym h))
call_is (call.Ioctl a b c) (call.Ioctl x y z) h = ap3 call.Ioctl (eqb-true a x (and_left (a == x) (b == y) (and_left (a == x && b == y) (same_text c z) h))) (eqb-true b y (and_right (a == x) (b == y) (and_left (a == x && b == y) (same_text c z) h))) (text_is c z (and_right (a == x && b == y) (same_text c z) h))
call_is (call.Ioctl a b c) _ h = absurd (true≢false (sym h))
call_is (call.Rexec a b) (call.Rexec x y) h = ap2 call.Rexec (text_is a x (and_left (same_text a x) (same_text b y) h)) (text_is b y (and_right (same_text a x) (same_text b y) h))
call_is (call.Rexec a b) _ h = absurd (true≢false (sym h))
call_is (call.Refused a) (call.Refused x) h = ap call.Refused (errno_is a x h)
call_is (call.Refused a) _ h = absurd (true≢false (sym h))
call_is call.BadStep call.BadStep h = refl
call_is call.BadStep _ h = absurd (true≢false (sym h))

pub call_same : (one : Call) → same_call one one ≡ true
call_same (call.Print a) = text_same a
call_same (call.Exit a) = eq-eqb a a refl
call_same call.Getpid = refl
call_same call.Getppid = refl
call_same (call.Host a) = eq-eqb a a refl
call_same call.Tick = refl
call_same call.Fork = refl
call_same (call.Exec a b) = and_both (text_same a) (eq-eqb b b refl)
call_same call.Wait = refl
call_same (call.Kill a) = eq-eqb a a refl
call_same (call.OpenFile a b) = and_both (text_same a) (eq-eqb b b refl)
call_same (call.Close a) = eq-eqb a a refl
call_same (call.Dup a) = eq-eqb a a refl
call_same (call.Read a b) = and_both (eq-eqb a a refl) (eq-eqb b b refl)
call_same (call.Write a b) = and_both (eq-eqb a a refl) (text_same b)
call_same (call.Seek a b) = and_both (eq-eqb a a refl) (eq-eqb b b refl)
call_same (call.Size a) = eq-eqb a a refl
call_same (call.Sync a) = eq-eqb a a refl
call_same (call.Stat a) = text_same a
call_same (call.Mkdir a) = text_same a
call_same (call.Rmdir a) = text_same a
call_same (call.Unlink a) = text_same a
call_same (call.Rename a b) = and_both (text_same a) (text_same b)
call_same (call.List a b) = and_both (text_same a) (eq-eqb b b refl)
call_same (call.Chdir a) = text_same a
call_same (call.Migrate a) = text_same a
call_same (call.PdMake a) = text_same a
call_same (call.PdGet a b) = and_both (eq-eqb a a refl) (eq-eqb b b refl)
call_same (call.PdPut a b c) = and_both (and_both (eq-eqb a a refl) (text_same b)) (eq-eqb c c refl)
call_same (call.Ioctl a b c) = and_both (and_both (eq-eqb a a refl) (eq-eqb b b refl)) (text_same c)
call_same (call.Rexec a b) = and_both (text_same a) (text_same b)
call_same (call.Refused a) = eq-eqb (errno_number a) (errno_number a) refl
call_same call.BadStep = refl

pub reply_is : (one two : Reply) → same_reply one two ≡ true → one ≡ two
reply_is (Value a b bytes) (Value x y others) h =
    ap3 Value (eqb-true a x (and_left (a == x) (b == y) (and_left (a == x && b == y) (same_text bytes others) h))) (eqb-true b y (and_right (a == x) (b == y) (and_left (a == x && b == y) (same_text bytes others) h))) (text_is bytes others (and_right (a == x && b == y) (same_text bytes others) h))
reply_is (Value a b bytes) _ h = absurd (true≢false (sym h))
reply_is (Error e) (Error f) h = ap Error (errno_is e f h)
reply_is (Error e) _ h = absurd (true≢false (sym h))

pub reply_same : (one : Reply) → same_reply one one ≡ true
reply_same (Value a b bytes) = and_both (and_both (eq-eqb a a refl) (eq-eqb b b refl)) (text_same bytes)
reply_same (Error e) = eq-eqb (errno_number e) (errno_number e) refl
