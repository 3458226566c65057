-- The shared streams, with their offsets and grants.
use Rattle.std.specs.Prelude.{ℕ, ◌+◌, ◌-◌, ◌==◌, nat_le, Bool, true, ◌&&◌, if◌then◌else◌, List, [], ◌∷◌, ◌++◌, Option, Some, None, option_map, slice_index, slice_set, replicate, fold}
use Rattle.std.specs.List.{find, list_all}
use Rattle.sprite_ids.specs.declared.StreamNo.{StreamNo}
use Rattle.sprite_ids.specs.Lists.{changed, without}
use Rattle.shadow_streams.specs.declared.shadow.Shadow.{Shadow}

-- how many grants a kernel holds; kernel 1 stands first
abbrev pub count_of : ℕ → List ℕ → ℕ
count_of kernel grants = slice_index grants (kernel - 1)

-- one grant more
abbrev pub raised : ℕ → List ℕ → List ℕ
raised kernel grants = slice_set grants (kernel - 1) (count_of kernel grants + 1)

-- that many grants fewer
abbrev pub lowered : ℕ → ℕ → List ℕ → List ℕ
lowered kernel fewer grants = slice_set grants (kernel - 1) (count_of kernel grants - fewer)

-- whether no kernel holds a grant
abbrev pub are_none : List ℕ → Bool
are_none grants = list_all (λ count. count == 0) grants

-- whether each count may be raised
abbrev pub are_roomy : List ℕ → Bool
are_roomy grants = list_all (λ count. nat_le count 2000000000) grants

-- one grant for each time that a kernel stands in the list
abbrev pub counted : List ℕ → List ℕ
counted kernels = fold (λ grants kernel. raised kernel grants) (replicate 16 0) kernels

-- whether it is that stream
abbrev pub is_of : StreamNo → Shadow → Bool
is_of stream shadow = (shadow.stream.kernel == stream.kernel) && (shadow.stream.number == stream.number)

-- the stream's offset, where it is shared
abbrev pub offset_of : List Shadow → StreamNo → Option ℕ
offset_of shadows stream = option_map (λ shadow. shadow.offset) (find (is_of stream) shadows)

-- how many grants of a looked-up stream a kernel holds
abbrev pub held : ℕ → Option Shadow → ℕ
held kernel (Some shadow) = count_of kernel shadow.grants
held kernel None = 0

-- how many grants of the stream a kernel holds
abbrev pub grants_of : List Shadow → StreamNo → ℕ → ℕ
grants_of shadows stream kernel = held kernel (find (is_of stream) shadows)

-- the streams after one became shared
abbrev pub share : List Shadow → StreamNo → ℕ → List ℕ → List Shadow
share shadows stream offset kernels = without (is_of stream) shadows ++ record { stream = stream; offset = offset; grants = counted kernels } ∷ []

-- the streams after a grant
abbrev pub grant : List Shadow → StreamNo → ℕ → List Shadow
grant shadows stream kernel = changed (is_of stream) (λ shadow. record shadow { grants = raised kernel shadow.grants }) shadows

-- the streams after a move of an offset
abbrev pub set_offset : List Shadow → StreamNo → ℕ → List Shadow
set_offset shadows stream offset = changed (is_of stream) (λ shadow. record shadow { offset = offset }) shadows

-- whether a looked-up stream has no grant once these are taken off
abbrev pub is_last : ℕ → ℕ → Option Shadow → Bool
is_last kernel fewer (Some shadow) = are_none (lowered kernel fewer shadow.grants)
is_last kernel fewer None = true

-- whether the stream has no grant once these are taken off
abbrev pub is_closed : List Shadow → StreamNo → ℕ → ℕ → Bool
is_closed shadows stream kernel fewer = is_last kernel fewer (find (is_of stream) shadows)

-- the streams after grants were taken off: a stream without grants goes
abbrev pub close : List Shadow → StreamNo → ℕ → ℕ → List Shadow
close shadows stream kernel fewer = if is_closed shadows stream kernel fewer then without (is_of stream) shadows else changed (is_of stream) (λ shadow. record shadow { grants = lowered kernel fewer shadow.grants }) shadows

-- whether each count may be raised
abbrev pub has_room : List Shadow → Bool
has_room shadows = list_all (λ shadow. are_roomy shadow.grants) shadows

-- whether the two are one stream
abbrev pub same_stream : Shadow → Shadow → Bool
same_stream shadow other = is_of shadow.stream other
