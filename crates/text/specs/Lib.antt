-- What a number, a field and a line of text are, to be read and to be written; and the lines of a text (`FirstLines`).
pub mod Number
pub mod Line
pub mod FirstLines
pub mod Text
pub mod Star
