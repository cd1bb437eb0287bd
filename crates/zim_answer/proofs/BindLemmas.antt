-- What goes on with a value, and what an answer says of the two that made it.
use Rattle.std.proofs.Common.{◌≡◌, ◌⊎◌, inl, inr, Result, Ok, Err, refl}
use Rattle.zim_answer.specs.Answer.{◌>>=◌}

-- the value of a first answer alone decides what follows
pub bind_assoc : {A B C F : Type 0} (a : Result A F) (f : A → Result B F) (g : B → Result C F) → ((a >>= f) >>= g) ≡ (a >>= λ x. f x >>= g)
bind_assoc (Ok x) f g = refl
bind_assoc (Err e) f g = refl

-- going on with the value itself changes nothing
pub bind_ok : {A F : Type 0} (a : Result A F) → (a >>= λ x. Ok x) ≡ a
bind_ok (Ok x) = refl
bind_ok (Err e) = refl

-- two ways to go on that agree on every value
pub bind_same : {A B F : Type 0} (a : Result A F) (f g : A → Result B F) → ((x : A) → f x ≡ g x) → (a >>= f) ≡ (a >>= g)
bind_same (Ok x) f g same = same x
bind_same (Err e) f g same = refl

-- a value in the end came from a value in the middle
pub bind_gave : {A B F : Type 0} (a : Result A F) (f : A → Result B F) (y : B) → (a >>= f) ≡ Ok y → (x : A) × (a ≡ Ok x) × (f x ≡ Ok y)
bind_gave (Ok x) f y h = (x, refl, h)
bind_gave (Err e) f y h = cc

-- a fault in the end is the first one's, or came after a value in the middle
pub bind_failed : {A B F : Type 0} (a : Result A F) (f : A → Result B F) (e : F) → (a >>= f) ≡ Err e → (a ≡ Err e) ⊎ ((x : A) × (a ≡ Ok x) × (f x ≡ Err e))
bind_failed (Ok x) f e h = inr (x, refl, h)
bind_failed (Err d) f e h = inl (let same : d ≡ e = cc in cc)
