-- What inserting gives, by whether a value was given to the index before.
use Rattle.std.proofs.Common.{◌≡◌, true, false, List, is_some, Some, None, Option, Ok, Err, refl}
use Rattle.std.proofs.lemmas.Bool.{true≢false, cond-true, cond-false}
use Rattle.zim_params.specs.Values.{Values, own_value, with_entry, value_inserted}
use Rattle.zim_params.specs.declared.param.InsertFault.TheVariants.{Twice}
use Rattle.zim_tuples.specs.declared.elements.Elem.{Elem}

pub inserted_twice : {V : Type 0} (values : Values V) (index : List Elem) (value : V) → is_some (own_value values index) ≡ true → value_inserted values index value ≡ Err Twice
unfolding value_inserted
inserted_twice values index value there = cond-true (is_some (own_value values index)) _ _ there

pub inserted_new : {V : Type 0} (values : Values V) (index : List Elem) (value : V) → is_some (own_value values index) ≡ false → value_inserted values index value ≡ Ok (with_entry values index value)
unfolding value_inserted
inserted_new values index value none = cond-false (is_some (own_value values index)) _ _ none

pub none_from : {V : Type 0} (found : Option V) → is_some found ≡ false → found ≡ None
none_from None none = refl
none_from (Some value) none = absurd (true≢false none)
