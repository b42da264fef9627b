mod Probing
mod Printed
