-- Bytes describe one cluster, or have one refusal.
use Rattle.std.proofs.Common.{◌≡◌, ℕ, ◌≤◌, List, [], length, Bool, true, false, nat_lt, Some, None, Result, Ok, Err, IfOk, IfErr, IsUtf8, IsTrue, refl, sym, ap, subst, ◌∙◌, inl, inr, arith}
use Rattle.std.specs.Prelude.{◌⊎◌}
use Rattle.std.specs.Bool.{if◌then◌else◌}
use Rattle.std.specs.Str.{is_utf8}
use Rattle.std.proofs.lemmas.Str.{IsUtf8-from_is_utf8, is_utf8-from_IsUtf8}
use Rattle.std.proofs.lemmas.Bool.Decides.{nat_tests}
use Rattle.toml.specs.Data.{Members}
use Rattle.toml.specs.Parse.{parse_document}
use Rattle.unix_calls.specs.declared.description.Description.{Description}
use Rattle.cluster_file.specs.declared.refusal.Refusal.{Refusal}
use Rattle.cluster_file.specs.declared.refusal.FileEnd.{FileEnd}
use Rattle.cluster_file.specs.declared.refusal.FileEnd.TheVariants as end
use Rattle.cluster_file.specs.Refusals.{refusal, IsRefusedBy}
use Rattle.cluster_file.specs.Clusters.{described, document_of, described_in, judged, Describes, Refuses, GivesRefusal, EachIsRead, EachIsReadOnce}

read_by : (bytes : List ℕ) (answer : Result Description Refusal) → judged bytes ≡ answer → ((c : Description) × Describes bytes c) ⊎ ((r : Refusal) × Refuses bytes r)
read_by bytes (Ok c) is = inl (c, is)
read_by bytes (Err r) is = inr (r, is)

pub each_is_read : EachIsRead
each_is_read bytes = read_by bytes (judged bytes) refl

pub each_is_read_once : EachIsReadOnce
each_is_read_once bytes = record {
  one_cluster = λ a b first second. cc;
  one_refusal = λ r s first second. cc;
  not_both = λ c r first second. absurd (cc);
}

-- bytes that are not too many are judged by their document
few_judged : (bytes : List ℕ) → length bytes ≤ 1048576 → judged bytes ≡ described_in (document_of bytes)
few_judged bytes few =
    let short : nat_lt 1048576 (length bytes) ≡ false = grind (arith, nat_tests, few) in
    ap (λ (b : Bool). if b then Err (refusal 1 []) else described_in (document_of bytes)) short

-- a document that was read
pub judged_as : (bytes : List ℕ) (document : Members) → length bytes ≤ 1048576 → IsUtf8 bytes → parse_document bytes ≡ Some document → judged bytes ≡ described document
judged_as bytes document few text parsed =
    few_judged bytes few
    ∙ ap (λ (b : Bool). described_in (if b then parse_document bytes else None)) (is_utf8-from_IsUtf8 bytes text)
    ∙ ap described_in parsed

-- bytes that are no document
not_read_by : (bytes : List ℕ) (b : Bool) → is_utf8 bytes ≡ b → (IsUtf8 bytes → parse_document bytes ≡ None) → described_in (if b then parse_document bytes else None) ≡ Err (refusal 2 [])
not_read_by bytes true text none = ap described_in (none (IsUtf8-from_is_utf8 bytes text))
not_read_by bytes false text none = refl

pub not_read : (bytes : List ℕ) → length bytes ≤ 1048576 → (IsUtf8 bytes → parse_document bytes ≡ None) → judged bytes ≡ Err (refusal 2 [])
not_read bytes few none = few_judged bytes few ∙ not_read_by bytes (is_utf8 bytes) refl none

-- an answer for a document is one for its bytes
pub ok_for : (r : Result Description FileEnd) (bytes : List ℕ) (answer : Result Description Refusal) → judged bytes ≡ answer → IfOk r (λ c. answer ≡ Ok c) → IfOk r (Describes bytes)
ok_for (Ok c) bytes answer is same = is ∙ same
ok_for (Err e) bytes answer is same = same

refused_as : (bytes : List ℕ) (answer : Result Description Refusal) (e : FileEnd) → judged bytes ≡ answer → IsRefusedBy answer e → GivesRefusal bytes e
refused_as bytes (Ok c) (end.Refused r) is bad = absurd bad
refused_as bytes (Err r) (end.Refused s) is same = is ∙ ap (λ (t : Refusal). Err t) (sym same)
refused_as bytes answer end.NoMemory is free = tt

pub err_for : (r : Result Description FileEnd) (bytes : List ℕ) (answer : Result Description Refusal) → judged bytes ≡ answer → IfErr r (IsRefusedBy answer) → IfErr r (GivesRefusal bytes)
err_for (Ok c) bytes answer is bad = bad
err_for (Err e) bytes answer is bad = refused_as bytes answer e is bad

-- the refusal that is given is that of the bytes
pub refused_for : (bytes : List ℕ) (number : ℕ) (e : FileEnd) → e ≡ end.Refused (refusal number []) → judged bytes ≡ Err (refusal number []) → GivesRefusal bytes e
refused_for bytes number e given is = subst (λ (f : FileEnd). GivesRefusal bytes f) (sym given) is

pub no_memory : (b : Bool) → b ≡ false → IsTrue b → ⊥
no_memory b unset told = absurd (cc)
