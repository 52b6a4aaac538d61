-- What a line is about, and what the lines before gave, as the code has them.
use Rattle.csr_data.specs.declared.parts.Wanted.{Wanted}
use Rattle.csr_data.specs.declared.parts.Wanted.TheVariants as wanted
use Rattle.csr_data.specs.declared.values.Values.{Values}
use Rattle.csr_data.specs.Lines.{Due, parameter, array, Given}

abbrev pub due_of : Wanted → Due
due_of (wanted.Parameter x) = parameter x
due_of (wanted.Array a) = array a.now

abbrev pub given_of : Values → Given
given_of v = record { params = v.params.items; arrays = v.arrays.items }
