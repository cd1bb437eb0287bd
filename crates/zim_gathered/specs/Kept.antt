-- The form that a growing form has come to, however it is kept.
use Rattle.zim_linear.specs.Forms.{LinearForm}
use Rattle.zim_gathered.specs.declared.gathered.Kept.{Kept}
use Rattle.zim_gathered.specs.declared.gathered.Kept.TheVariants.{InOrder, ByColumn}

-- The form itself, either way.
abbrev pub form_kept : Kept → LinearForm
form_kept (InOrder form) = form
form_kept (ByColumn form) = form
